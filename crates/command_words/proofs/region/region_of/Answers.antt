use Rattle.std.proofs.Common.{rules, ◌∙◌, ap, ap₂, sym, Some, None}
use Rattle.command_words.specs.Numbers.{number_of, region_from}
use Rattle.command_words.proofs.Regions.{parted, no_base, no_size}
use Rattle.command_words.proofs.region.region_of.Goals as goal

pub returns-in_default-clause-value : goal.returns-in_default-clause-value
returns-in_default-clause-value c = sym (parted c.args.text.now None c.in_default.ensures.cases)

pub returns-in_default-number_of-clause-value : goal.returns-in_default-number_of-clause-value
returns-in_default-number_of-clause-value c =
    let parts = parted c.args.text.now (Some (c.in-Some.base, c.in-Some.size)) c.in-Some.ensures.cases in
    sym (parts ∙ (ap (λ n. region_from n (number_of c.in-Some.size.now)) (sym (search rules)) ∙ no_base _))

pub returns-in_default-number_of-2-clause-value : goal.returns-in_default-number_of-2-clause-value
returns-in_default-number_of-2-clause-value c =
    let parts = parted c.args.text.now (Some (c.in-Some.base, c.in-Some.size)) c.in-Some.ensures.cases in
    sym (parts ∙ (ap (region_from (number_of c.in-Some.base.now)) (sym (search rules)) ∙ no_size _))

pub returns-clause-value : goal.returns-clause-value
returns-clause-value c =
    let parts = parted c.args.text.now (Some (c.in-Some.base, c.in-Some.size)) c.in-Some.ensures.cases in
    c.region_from.ensures.value ∙ sym (parts ∙ ap₂ region_from (sym (search rules)) (sym (search rules)))
