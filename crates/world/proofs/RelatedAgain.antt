-- A world after a replacement stands for what it stood for.
use Rattle.std.proofs.Common.{◌≡◌, ℕ, ◌*◌, Bool, true, false, List, sym, ap, ◌∙◌, subst}
use Rattle.std.specs.Prelude.{None, IfSome, Result, Ok, Err}
use Rattle.finite.specs.Maps.{contains}
use Rattle.image.specs.Texts.{word_at}
use Rattle.layout.specs.Points.{Code, StandsFor}
use Rattle.guest_mem.specs.Memory.{number_at}
use Rattle.machine.specs.States.{State}
use Rattle.plans.specs.declared.plan.Moved.{Moved}
use Rattle.plans.specs.Given.{plan_fault}
use Rattle.patcher.specs.Patched.{CanJoin, joined}
use Rattle.patcher.proofs.FuncStarts.{start_outside}
use Rattle.patcher.proofs.Keeps.{stands_on, moved_on, aim_point}
use Rattle.sched_log.specs.declared.facts.Refusal.{Refusal}
use Rattle.sched_log.specs.declared.facts.Refusal.TheVariants as refusal
use Rattle.sim_laws.specs.Related.{StatesRelated}
use Rattle.sim_laws.specs.Changes.{KeepsPointers, with_links, with_memory}
use Rattle.sim_laws.proofs.Change.{kept_by_change, slots_set}
use Rattle.sim_laws.proofs.CodeFacts.{code_is}
use Rattle.world.specs.Worlds.{Replaced, IsWorld, code_in, code_of, IsSound, Related}
use Rattle.world.specs.Replacing.{IsFit, IsReplaced, slots_sent, numbered, left_by, refused_as, IsRefused, Attempts, Replaces, over, done, refused}
use Rattle.world.proofs.Fitting.{fits_new}
use Rattle.world.proofs.SentSlots.{all_sent}
use Rattle.world.proofs.SoundAgain.{can_join, sound_again}

-- ---- a replacement that is done
module _ (plan : List Moved) (w v : Replaced) (given : plan_fault w.image plan ≡ None) (h : IsReplaced plan w v) (s : IsWorld w) where
  fits : IfSome h.new (IsFit w.image w.free)
  fits = fits_new w.image w.free plan s.kept s.rises s.whole given h.readable h.new h.is_new h.short_words

  joins : IfSome h.new (CanJoin w.image w.lives)
  joins = can_join w.image w.text h.text w.lives h.older w.numbers w.free w.counts h.new s fits h.in_text h.in_lives

  code_sound : IsSound w.image h.text (joined h.older h.new) (numbered h.new w.counts w.numbers) (left_by h.new w.free)
  code_sound = sound_again w.image w.text h.text w.lives h.older w.numbers w.free w.counts h.new s fits h.in_text h.in_lives

  pub replaced_sound : IsWorld v
  replaced_sound = subst IsWorld (sym h.is) code_sound

  abbrev c : Code
  c = code_of w

  abbrev d : Code
  d = code_in w.image h.text (joined h.older h.new)

  -- each live pointer goes on to stand for what it stood for
  on : (a x : ℕ) → StandsFor c a x → StandsFor d a x
  on a x = stands_on w.image s.kept w.text h.text w.lives h.older h.new h.in_text h.in_lives joins s.placed.renders a x

  keeps_pointers : KeepsPointers c d w.machine
  keeps_pointers = record {
    stands = λ a x k. on a x;
    moved = λ b x rd high k. moved_on w.image s.kept w.text h.text w.lives h.older h.new h.in_text h.in_lives joins s.placed.renders b x rd high;
  }

  module _ (o : State) (r : StatesRelated w.image c w.machine o) where
    links : (i : ℕ) → contains w.machine.memory.links i ≡ true → (y : ℕ) × StandsFor c (number_at w.machine.memory (8 * i)) y
    links i e = (number_at o.memory (8 * i), (r.memory.numbers i (ap (λ ls. contains ls i) (sym r.memory.links) ∙ e)).stands)

    pub states_again : StatesRelated w.image d (with_memory (with_links (slots_sent w.image c h.new w.machine.memory) w.machine.memory) w.machine) o
    states_again =
        let sound = code_sound in
        slots_set w.image d s.kept (code_is w.image (word_at h.text) (joined h.older h.new) (record { laid = sound.placed.laid; hops = sound.hops })) o
        (slots_sent w.image c h.new w.machine.memory) w.machine
        (all_sent w.image c d h.new w.machine.memory s.kept on
        (λ f x e. (aim_point w.image s.kept w.text h.text w.lives h.older h.new h.in_text h.in_lives joins s.placed.renders x (start_outside w.image s.kept f x e)).0) links)
        (kept_by_change w.image c d w.machine o keeps_pointers r)

pub replaced_related : (plan : List Moved) (w v : Replaced) → plan_fault w.image plan ≡ None → IsReplaced plan w v → (o : State) → Related w o → Related v o
replaced_related plan w v given h o r = record {
  states = subst (λ (x : Replaced). StatesRelated x.image (code_of x) x.machine o) (sym h.is) (states_again plan w v given h r.sound o r.states);
  sound = replaced_sound plan w v given h r.sound;
}

-- ---- any attempt
refused_related : (w v : Replaced) (why : Refusal) → v ≡ refused_as why w → (o : State) → Related w o → Related v o
refused_related w v why e o r = rw e (record { states = r.states; sound = r.sound })

kept_related : (w v : Replaced) → v ≡ w → (o : State) → Related w o → Related v o
kept_related w v e o r = rw e r

refusal_related : (plan : List Moved) (w v : Replaced) (why : Refusal) → IsRefused plan w why v → (o : State) → Related w o → Related v o
refusal_related plan w v (refusal.RegionFull need most) h = refused_related w v (refusal.RegionFull need most) h.1
refusal_related plan w v (refusal.BranchReach at target) h = refused_related w v (refusal.BranchReach at target) h.1
refusal_related plan w v (refusal.Unreadable g why) h = refused_related w v (refusal.Unreadable g why) h.1
refusal_related plan w v refusal.NoMemory h = kept_related w v h

pub attempt_related : (plan : List Moved) (w v : Replaced) (b : Bool) (answer : Result Unit Refusal) → plan_fault w.image plan ≡ None → Attempts plan w b answer v
    → (o : State) → Related w o → Related v o
attempt_related plan w v true (Ok u) g h = kept_related w v h
attempt_related plan w v true (Err why) g h = absurd h
attempt_related plan w v false (Ok u) g h = replaced_related plan w v g h
attempt_related plan w v false (Err why) g h = refusal_related plan w v why h

pub replaces_sound : (plan : List Moved) (w v : Replaced) → plan_fault w.image plan ≡ None → Replaces plan w v → IsWorld w → IsWorld v
replaces_sound plan w v given (over b f) s = subst IsWorld (sym f) s
replaces_sound plan w v given (done b h) s = replaced_sound plan w v given h s
replaces_sound plan w v given (refused why n b h f) s = subst IsWorld (sym f) s

pub replaces_related : (plan : List Moved) (w v : Replaced) (o : State) → plan_fault w.image plan ≡ None → Replaces plan w v → Related w o → Related v o
replaces_related plan w v o given (over b f) r = kept_related w v f o r
replaces_related plan w v o given (done b h) r = replaced_related plan w v given h o r
replaces_related plan w v o given (refused why n b h f) r = refused_related w v why f o r
