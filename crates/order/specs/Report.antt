-- The reversible pairs of a chart over a delivery, rising by the first event and then by the second.
use Rattle.std.specs.Prelude.{ℕ, zero, suc, Bool, cond, ◌&&◌, ◌↔◌, List, [], ◌∷◌, ◌++◌, map, length, ◌==◌, nat_lt}
use Rattle.chart.specs.Content.{Content}
use Rattle.delivery.specs.declared.parcel.Tag.{Tag}
use Rattle.order.specs.Lists.{Has, Rising}
use Rattle.order.specs.Order.{Scene}
use Rattle.order.specs.Reversible.{Reversible}
use Rattle.order.specs.Pass.{Row, rows, turns}
use Rattle.order.specs.Scenes.{scene_of, instance_of, event_at, PairAt}

-- these are the reversible pairs, each once and in order
pub record Reports (c : Content) (rule : Tag → Tag → Bool) (room : ℕ) (pairs : List (ℕ × ℕ)) : Type 0 where
  pub rising : Rising pairs
  pub exact : (a b : ℕ) → (Has (a, b) pairs ↔ (PairAt c a b × Reversible (scene_of c rule room) (event_at c a) (event_at c b)))

-- the numbers below n that pass a test, rising
abbrev pub upward : (ℕ → Bool) → ℕ → List ℕ
upward p zero = []
upward p (suc n) = upward p n ++ cond (p n) (n ∷ []) []

-- the pairs (x, y) that pass a test, with x below m and y below n
abbrev pub grid : (ℕ → ℕ → Bool) → ℕ → ℕ → List (ℕ × ℕ)
grid p n zero = []
grid p n (suc x) = grid p n x ++ map (λ y. (x, y)) (upward (p x) n)

-- whether a and b are a pair that the rows show to be reversible
abbrev pub is_reported : Content → Scene → List Row → ℕ → ℕ → Bool
is_reported c s t a b =
    (nat_lt a b && instance_of c (event_at c a) == instance_of c (event_at c b)) && turns s t (event_at c a) (event_at c b)

abbrev pub report_by : Content → Scene → List Row → List (ℕ × ℕ)
report_by c s t = grid (is_reported c s t) (length c.events) (length c.events)

abbrev pub report : Content → (Tag → Tag → Bool) → ℕ → List (ℕ × ℕ)
report c rule room = report_by c (scene_of c rule room) (rows (scene_of c rule room) (length c.messages))
