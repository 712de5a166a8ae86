-- What stands in memory once the stack and the slots are there.
use Rattle.std.proofs.Common.{◌≡◌, ℕ, suc, ◌+◌, ◌-◌, ◌*◌, ◌/◌, ◌%◌, ◌<◌, ◌≤◌, Bool, true, false, cond, nat_eq, List, [], ◌∷◌, length, get_or, refl, ap, ◌∙◌, arith}
use Rattle.std.specs.Prelude.{◌||◌, ◌==◌, find, codes}
use Rattle.std.specs.List.{list_any}
use Rattle.std.specs.Option.{option_map_or}
use Rattle.std.proofs.lemmas.Bool.Decides.{nat_tests}
use Rattle.finite.specs.Maps.{contains, within}
use Rattle.finite.proofs.MapLaws.{at-fill, at-zeros, contains-mark, contains-nowhere, mark_at}
use Rattle.image.specs.declared.ranges.Aim.{Aim}
use Rattle.image.specs.Picture.{Picture, IsKept}
use Rattle.image.specs.Aims.{covers_part}
use Rattle.link_tags.specs.declared.value.Tag.TheVariants.{Plain}
use Rattle.guest_mem.specs.declared.words.Word.{Word}
use Rattle.guest_mem.specs.Memory.{Memory, blank, byte_at, bytes_of, with_word}
use Rattle.guest_mem.specs.Access.{mapped, touched}
use Rattle.machine.specs.Stack.{stack_start, stack_end, stack_pointer, name_at}
use Rattle.machine.specs.Start.{with_bytes, with_parts, with_words, first_words, with_stack, with_slot, with_slots, start_memory}
use Rattle.machine.specs.Loaded.{IsLoaded, is_stack, byte_of_part, byte_of_words, byte_of_stack}
use Rattle.machine.proofs.LoadedParts.{IsPlain, bytes_put, part_byte, part_readable, part_writable_at, parts_read, parts_plain}

-- ---- slots
slots_bytes : (ss : List Aim) (m : Memory) (a : ℕ) → byte_at (with_slots ss m) a ≡ byte_at m a
slots_bytes [] m a = refl
slots_bytes (s ∷ ss) m a = slots_bytes ss (with_slot s m) a

slots_readable : (ss : List Aim) (m : Memory) (a : ℕ) → contains (with_slots ss m).readable a ≡ contains m.readable a
slots_readable [] m a = refl
slots_readable (s ∷ ss) m a = slots_readable ss (with_slot s m) a

slots_writable : (ss : List Aim) (m : Memory) (a : ℕ) → contains (with_slots ss m).writable a ≡ contains m.writable a
slots_writable [] m a = refl
slots_writable (s ∷ ss) m a = slots_writable ss (with_slot s m) a

turned : (a b c : Bool) → (b || cond a true c) ≡ ((a || b) || c)
turned true true c = refl
turned true false c = refl
turned false b c = refl

slots_links : (ss : List Aim) (m : Memory) (w : ℕ) → contains (with_slots ss m).links w ≡ (list_any (λ s. w == s.at / 8) ss || contains m.links w)
slots_links [] m w = refl
slots_links (s ∷ ss) m w =
    slots_links ss (with_slot s m) w
    ∙ ap (λ b. list_any (λ s. w == s.at / 8) ss || b) (mark_at m.links (s.at / 8) w true)
    ∙ turned (w == s.at / 8) (list_any (λ s. w == s.at / 8) ss) (contains m.links w)

-- ---- words
words_readable : (at : ℕ) (ns : List ℕ) (m : Memory) (a : ℕ) → contains (with_words at ns m).readable a ≡ contains m.readable a
words_readable at [] m a = refl
words_readable at (n ∷ ns) m a = words_readable (at + 8) ns (with_word m (at / 8) (record { bytes = bytes_of n; tag = Plain })) a

words_writable : (at : ℕ) (ns : List ℕ) (m : Memory) (a : ℕ) → contains (with_words at ns m).writable a ≡ contains m.writable a
words_writable at [] m a = refl
words_writable at (n ∷ ns) m a = words_writable (at + 8) ns (with_word m (at / 8) (record { bytes = bytes_of n; tag = Plain })) a

none : (b x : Bool) → x ≡ false → cond b false x ≡ false
none true x e = refl
none false x e = e

words_plain : (at : ℕ) (ns : List ℕ) (m : Memory) → IsPlain m → IsPlain (with_words at ns m)
words_plain at [] m plain = plain
words_plain at (n ∷ ns) m plain =
    words_plain (at + 8) ns (with_word m (at / 8) (record { bytes = bytes_of n; tag = Plain }))
    (λ w. mark_at m.links (at / 8) w false ∙ none (nat_eq w (at / 8)) (contains m.links w) (plain w))

words_bytes : (at : ℕ) (ns : List ℕ) (m : Memory) (a : ℕ) → at % 8 ≡ 0 → byte_at (with_words at ns m) a ≡ cond (within at (8 * length ns) a) (byte_of_words at ns a) (byte_at m a)
words_bytes at [] m a whole =
    let e : within at (8 * 0) a ≡ false = grind (arith, nat_tests) in
    rw (e) refl
words_bytes at (n ∷ ns) m a whole =
    let w : Word = record { bytes = bytes_of n; tag = Plain } in
    let at_is : 8 * (at / 8) ≡ at = omega arith in
    words_bytes (at + 8) ns (with_word m (at / 8) w) a (omega arith)
    ∙ ap (cond (within (at + 8) (8 * length ns) a) (byte_of_words (at + 8) ns a))
    (at-fill m.bytes (8 * (at / 8)) 8 (λ q. get_or (bytes_of n) (q - 8 * (at / 8)) 0) a
    ∙ ap (λ x. cond (within x 8 a) (get_or (bytes_of n) (a - x) 0) (byte_at m a)) at_is)
    ∙ one_more at n ns a (byte_at m a)
  where
    later : (at n : ℕ) (ns : List ℕ) (a : ℕ) → at + 8 ≤ a → byte_of_words (at + 8) ns a ≡ byte_of_words at (n ∷ ns) a
    later at n ns a le =
        let q : (a - at) / 8 ≡ suc ((a - (at + 8)) / 8) = omega arith in
        let r : (a - at) % 8 ≡ (a - (at + 8)) % 8 = omega arith in
        rw (q, r) refl

    now : (at n : ℕ) (ns : List ℕ) (a : ℕ) → at ≤ a → a < at + 8 → get_or (bytes_of n) (a - at) 0 ≡ byte_of_words at (n ∷ ns) a
    now at n ns a le lt =
        let q : (a - at) / 8 ≡ 0 = omega arith in
        let r : (a - at) % 8 ≡ a - at = omega arith in
        rw (q, r) refl

    pick : (at k a x y z t : ℕ) → (at + 8 ≤ a → x ≡ t) → (at ≤ a → a < at + 8 → y ≡ t) → cond (within (at + 8) (8 * k) a) x (cond (within at 8 a) y z) ≡ cond (within at (8 * suc k) a) t z
    pick at k a x y z t past there = grind (arith, nat_tests, past, there)

    one_more : (at n : ℕ) (ns : List ℕ) (a z : ℕ) → cond (within (at + 8) (8 * length ns) a) (byte_of_words (at + 8) ns a) (cond (within at 8 a) (get_or (bytes_of n) (a - at) 0) z) ≡ cond (within at (8 * suc (length ns)) a) (byte_of_words at (n ∷ ns) a) z
    one_more at n ns a z = pick at (length ns) a (byte_of_words (at + 8) ns a) (get_or (bytes_of n) (a - at) 0) z (byte_of_words at (n ∷ ns) a) (later at n ns a) (now at n ns a)

-- ---- the stack
mapped_plain : (m : Memory) (a n : ℕ) (read write : Bool) → IsPlain m → IsPlain (mapped m a n read write)
mapped_plain m a n read write plain w = contains-mark m.links (a / 8) (touched a n) (λ _. false) w ∙ none (within (a / 8) (touched a n) w) (contains m.links w) (plain w)

bytes_plain : (m : Memory) (at : ℕ) (bytes : List ℕ) → IsPlain m → IsPlain (with_bytes m at bytes)
bytes_plain m at bytes plain w =
    contains-mark m.links (at / 8) (touched at (length bytes)) (λ _. false) w ∙ none (within (at / 8) (touched at (length bytes)) w) (contains m.links w) (plain w)

stack_plain : (image : Picture) (m : Memory) → IsPlain m → IsPlain (with_stack image m)
stack_plain image m plain =
    let mm = mapped m stack_start (stack_end - stack_start) true true in
    words_plain stack_pointer (first_words image) (with_bytes mm name_at (codes "guest"))
    (bytes_plain mm name_at (codes "guest") (mapped_plain m stack_start (stack_end - stack_start) true true plain))

nested : (w n s : Bool) (x y z : ℕ) → (w ≡ true → s ≡ true) → (n ≡ true → s ≡ true) → cond w x (cond n y (cond s 0 z)) ≡ cond s (cond w x (cond n y 0)) z
nested w n true x y z a b = refl
nested true n false x y z a b = let e = a refl in absurd cc
nested false true false x y z a b = let e = b refl in absurd cc
nested false false false x y z a b = refl

words_on_stack : (a : ℕ) → within stack_pointer 128 a ≡ true → is_stack a ≡ true
words_on_stack a e = grind (arith, nat_tests)

name_on_stack : (a : ℕ) → within name_at 5 a ≡ true → is_stack a ≡ true
name_on_stack a e = grind (arith, nat_tests)

stack_bytes : (image : Picture) (m : Memory) (a : ℕ) → IsPlain m → byte_at (with_stack image m) a ≡ cond (is_stack a) (byte_of_stack image a) (byte_at m a)
stack_bytes image m a plain =
    let n = stack_end - stack_start in
    let mm = mapped m stack_start n true true in
    words_bytes stack_pointer (first_words image) (with_bytes mm name_at (codes "guest")) a refl
    ∙ ap (cond (within stack_pointer 128 a) (byte_of_words stack_pointer (first_words image) a))
    (bytes_put mm name_at (codes "guest") a (mapped_plain m stack_start n true true plain)
    ∙ ap (cond (within name_at 5 a) (get_or (codes "guest") (a - name_at) 0)) (at-fill m.bytes stack_start n (λ _. 0) a))
    ∙ nested (within stack_pointer 128 a) (within name_at 5 a) (is_stack a) (byte_of_words stack_pointer (first_words image) a) (get_or (codes "guest") (a - name_at) 0) (byte_at m a) (words_on_stack a) (name_on_stack a)

stack_readable : (image : Picture) (m : Memory) (a : ℕ) → contains (with_stack image m).readable a ≡ cond (is_stack a) true (contains m.readable a)
stack_readable image m a =
    words_readable stack_pointer (first_words image) (with_bytes (mapped m stack_start (stack_end - stack_start) true true) name_at (codes "guest")) a
    ∙ contains-mark m.readable stack_start (stack_end - stack_start) (λ _. true) a

stack_writable : (image : Picture) (m : Memory) (a : ℕ) → contains (with_stack image m).writable a ≡ cond (is_stack a) true (contains m.writable a)
stack_writable image m a =
    words_writable stack_pointer (first_words image) (with_bytes (mapped m stack_start (stack_end - stack_start) true true) name_at (codes "guest")) a
    ∙ contains-mark m.writable stack_start (stack_end - stack_start) (λ _. true) a

-- ---- all of it
or_none : (b c : Bool) → c ≡ false → (b || c) ≡ b
or_none true c e = refl
or_none false c e = e

blank_plain : IsPlain blank
blank_plain w = contains-nowhere w

pub loaded : (image : Picture) → IsKept image → IsLoaded image (start_memory image)
unfolding start_memory
loaded image kept =
    let parts = with_parts image.parts blank in
    let all = with_stack image parts in
    let plain = parts_plain image.parts blank blank_plain in
    record {
      bytes = λ a.
          slots_bytes image.slots all a ∙ stack_bytes image parts a plain
          ∙ ap (cond (is_stack a) (byte_of_stack image a))
          (parts_read (λ m. byte_at m a) (byte_of_part a) a (λ p m fit flat. part_byte p m a fit flat) image.parts blank kept.parts_fit kept.parts_rise blank_plain
          ∙ ap (option_map_or (byte_of_part a) (find (covers_part a) image.parts)) (at-zeros a));
      readable = λ a.
          slots_readable image.slots all a ∙ stack_readable image parts a
          ∙ ap (cond (is_stack a) true)
          (parts_read (λ m. contains m.readable a) (λ p. p.read) a (λ p m fit flat. part_readable p m a fit) image.parts blank kept.parts_fit kept.parts_rise blank_plain
          ∙ ap (option_map_or (λ p. p.read) (find (covers_part a) image.parts)) (contains-nowhere a));
      writable = λ a.
          slots_writable image.slots all a ∙ stack_writable image parts a
          ∙ ap (cond (is_stack a) true)
          (parts_read (λ m. contains m.writable a) (λ p. p.write) a (λ p m fit flat. part_writable_at p m a fit) image.parts blank kept.parts_fit kept.parts_rise blank_plain
          ∙ ap (option_map_or (λ p. p.write) (find (covers_part a) image.parts)) (contains-nowhere a));
      links = λ w. slots_links image.slots all w ∙ or_none (list_any (λ s. w == s.at / 8) image.slots) (contains all.links w) (stack_plain image parts plain w);
    }
