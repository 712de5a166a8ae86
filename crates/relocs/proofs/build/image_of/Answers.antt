use Rattle.std.proofs.Common.{map, refl}
use Rattle.finite.proofs.Arranged.{keys_rise}
use Rattle.image.specs.Aims.{part_start, part_end, site_at, pair_at, slot_at}
use Rattle.relocs.specs.Named.{aim_entry, is_call, is_far, is_stored}
use Rattle.relocs.specs.Built.{parts_of}
use Rattle.relocs.proofs.Builds.{aims_known, aims_rise}
use Rattle.relocs.proofs.DistinctLemmas.{aims_same}
use Rattle.relocs.proofs.PartLemmas.{some_parts}
use Rattle.relocs.proofs.build.image_of.Goals as goal

pub of-requires : goal.of-requires
of-requires c =
    let lines = c.as_slice-lines.ensures.value in
    let pieces = c.as_slice-data.ensures.value in
    let code = c.as_slice-code.ensures.value in
    let relocs = c.as_slice-relocs.ensures.value in
    let ts = c.args.texts.items in
    let ps = c.in_ok-parts.parts.items in
    let fs = c.in_ok-funcs.funcs.items in
    let rs = c.in_ok-entries.entries.items in
    let ss = c.args.elf.now.symbols in
    record {
      texts_fit = rw lines at c.text_laws.ensures.fit;
      texts_rise = rw lines at c.text_laws.ensures.rise;
      parts_fit = c.in_ok-parts.ensures.fit;
      parts_rise = c.in_ok-parts.ensures.rise;
      apart = rw lines at c.in_ok-parts.ensures.apart;
      entry_is_word = rw lines at c.text_laws.ensures.entry;
      region = record {
        pages = c.requires.pages;
        free = rw (lines, pieces) at c.region_laws.ensures;
        no_aims = rw lines at c.text_laws.ensures.unaimed;
      };
      funcs_fit = rw (lines, code) at c.func_laws.ensures.fit;
      funcs_rise = rw code at c.func_laws.ensures.rise;
      few_funcs = rw code at c.func_laws.ensures.few;
      sites_rise = aims_rise is_call (site_at ts fs) rs c.in_ok-sites.sites.items (rw (lines, code, relocs) at c.in_ok-sites.ensures);
      sites_call = aims_known is_call (site_at ts fs) rs c.in_ok-sites.sites.items (rw (lines, code, relocs) at c.in_ok-sites.ensures);
      pairs_rise = aims_rise is_far (pair_at ts fs c.args.elf.now.entry) rs c.in_ok-pairs.pairs.items (rw (lines, code, relocs) at c.in_ok-pairs.ensures);
      pairs_call = aims_known is_far (pair_at ts fs c.args.elf.now.entry) rs c.in_ok-pairs.pairs.items (rw (lines, code, relocs) at c.in_ok-pairs.ensures);
      slots_rise = aims_rise (is_stored ss ps) (slot_at ps fs) rs c.in_ok-slots.slots.items (rw (pieces, code, relocs) at c.in_ok-slots.ensures);
      slots_name = aims_known (is_stored ss ps) (slot_at ps fs) rs c.in_ok-slots.slots.items (rw (pieces, code, relocs) at c.in_ok-slots.ensures);
    }

pub returns : goal.returns
unfolding parts_of
returns c =
    let lines = c.as_slice-lines.ensures.value in
    let pieces = c.as_slice-data.ensures.value in
    let code = c.as_slice-code.ensures.value in
    let segments = c.as_slice-segments.ensures in
    let relocs = c.as_slice-relocs.ensures.value in
    let ts = c.args.texts.items in
    let ps = c.in_ok-parts.parts.items in
    let fs = c.in_ok-funcs.funcs.items in
    let rs = c.in_ok-entries.entries.items in
    let all = c.args.elf.now.relocs in
    let same = c.in_ok-entries.ensures in
    rw c.of.ensures (record {
      texts = record { same = c.requires.same; rise = rw lines at c.text_laws.ensures.starts };
      parts = record {
        same = rw (lines, segments) at c.in_ok-parts.ensures.same;
        rise = keys_rise part_start part_end c.in_ok-parts.parts.items c.in_ok-parts.ensures.rise (some_parts c.in_ok-parts.parts.items c.in_ok-parts.ensures.fit);
      };
      entry = refl;
      region = refl;
      funcs = rw lines at c.in_ok-funcs.ensures;
      sites = aims_same is_call (site_at ts fs) rs all (map aim_entry c.in_ok-sites.sites.items) same (rw (lines, code, relocs) at c.in_ok-sites.ensures);
      pairs = aims_same is_far (pair_at ts fs c.args.elf.now.entry) rs all (map aim_entry c.in_ok-pairs.pairs.items) same (rw (lines, code, relocs) at c.in_ok-pairs.ensures);
      slots = aims_same (is_stored c.args.elf.now.symbols ps) (slot_at ps fs) rs all (map aim_entry c.in_ok-slots.slots.items) same (rw (pieces, code, relocs) at c.in_ok-slots.ensures);
      headers = c.headers_of-headers.ensures;
    })
