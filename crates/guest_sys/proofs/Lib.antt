pub mod Input
pub mod Links
pub mod RangeLaws
pub mod FileLaws
pub mod CallLaws
pub mod PageLaws
pub mod SplitLaws
pub mod ThreadLaws
