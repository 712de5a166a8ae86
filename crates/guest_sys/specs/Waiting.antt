-- The list of waiting harts: who is woken, who is left and who is moved, in the order of waiting.
use Rattle.std.specs.Prelude.{ℕ, zero, suc, ◌==◌, Bool, List, [], ◌∷◌, ◌++◌, take, map, filter, if◌then◌else◌}
use Rattle.guest_sys.specs.declared.state.Waiter.{Waiter}

abbrev pub waits_at : ℕ → Waiter → Bool
waits_at a w = w.at == a

-- the first n that wait at a
abbrev pub first_at : ℕ → ℕ → List Waiter → List Waiter
first_at n a ws = take n (filter (waits_at a) ws)

-- all but the first n that wait at a
abbrev pub others : ℕ → ℕ → List Waiter → List Waiter
others n a [] = []
others zero a (w ∷ ws) = w ∷ ws
others (suc n) a (w ∷ ws) = if waits_at a w then others n a ws else w ∷ others (suc n) a ws

abbrev pub harts : List Waiter → List ℕ
harts ws = map (λ w. w.hart) ws

abbrev pub sent_to : ℕ → List Waiter → List Waiter
sent_to b ws = map (λ w. record { hart = w.hart; at = b }) ws

-- the first m that wait at a go behind all others and wait at b
abbrev pub requeued : ℕ → ℕ → ℕ → List Waiter → List Waiter
requeued m a b ws = others m a ws ++ sent_to b (first_at m a ws)
