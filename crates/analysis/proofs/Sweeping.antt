-- One step of the walk over the reversible pairs.
use Rattle.std.proofs.Common.{◌≡◌, ℕ, zero, suc, ◌+◌, ◌-◌, ◌*◌, ◌<◌, ◌≤◌, Bool, true, false, cond, not, ◌&&◌, eqb, ltb, List, [], ◌∷◌, ◌++◌, map, length, get_or, drop, Some, None, vec_len, Option, sym, ap, ◌∙◌, subst, inl, inr, append_assoc, add-one, arith}
use Rattle.std.specs.Iterator.{MakesProgress, item_count}
use Rattle.std.specs.Bool.{⊤}
use Rattle.std.specs.List.{All}
use Rattle.std.proofs.lemmas.List.Elements.{All-nil, All-cons, All-append, All-map, All-weaker}
use Rattle.std.proofs.lemmas.List.{append-nil, map-append, length-append, length-map, length_push, drop_more, drop_all, get_or_at}
use Rattle.std.proofs.lemmas.Bool.{cond-true, cond-false, cases_lt, cases_Bool, le-ltb, ltb-true, and_left, and_parts}
use Rattle.chart.specs.Charted.{content, drawn}
use Rattle.chart.specs.Content.{Happening, sent, received, message_of, Content, nobody, sender_of, receiver_of}
use Rattle.chart.specs.declared.charting.Chart.{Chart}
use Rattle.chart.specs.declared.charting.asking.Line.{Line}
use Rattle.chart.specs.declared.numbers.EventId.{EventId}
use Rattle.chart.proofs.Stored.{event_count}
use Rattle.delivery.specs.declared.parcel.Tag.{Tag}
use Rattle.order.specs.Pass.{turns, rows}
use Rattle.order.specs.Report.{upward, grid, report}
use Rattle.order.specs.Scenes.{Laid, scene_of, instance_of, event_at}
use Rattle.order.proofs.Scenes.{event_inside}
use Rattle.order.proofs.Verdict.{chart_laid}
use Rattle.analysis.specs.Races.{race_of, races_of, InChart}
use Rattle.analysis.specs.Walking.{FirstFrom, passed, Course, Gives, is_race, Sweeps, SweepsOn, Begins, Walks}
use Rattle.analysis.specs.declared.races.Race.{Race}
use Rattle.analysis.specs.declared.walking.Sweep.{Sweep}

ends_inside : (c : Content) → Laid c → (m : ℕ) → m < length c.messages → (sender_of c m < length c.instances) × (receiver_of c m < length c.instances)
ends_inside c laid m l =
    let n = length c.instances in
    let p = get_or c.messages m nobody in
    let a = and_parts (ltb p.sender n) (ltb p.receiver n && not (eqb p.sender p.receiver)) (laid.all_join m nobody l) in
    let b = and_parts (ltb p.receiver n) (not (eqb p.sender p.receiver)) a.1 in
    (ltb-true p.sender n a.0, ltb-true p.receiver n b.0)

drawn_inside : (c : Content) → Laid c → (e : Happening) → message_of e < length c.messages → (drawn c e).instance.0 < length c.instances
drawn_inside c laid (sent m) l = (ends_inside c laid m l).0
drawn_inside c laid (received m) l = (ends_inside c laid m l).1

instance_inside : (c : Content) → Laid c → (i : ℕ) → i < length c.events → (drawn c (event_at c i)).instance.0 < length c.instances
instance_inside c laid i l = drawn_inside c laid (event_at c i) (event_inside c laid i l)

-- how many events are left as firsts of pairs
abbrev pub unswept : Content → Option Sweep → ℕ
unswept c None = 0
unswept c (Some w) = length c.events - w.prospect.first.0

module _ (q : ℕ → Bool) where
  pub upward_one : (n : ℕ) → q n ≡ true → upward q (n + 1) ≡ upward q n ++ n ∷ []
  upward_one n h = rw add-one (ap (λ (t : List ℕ). upward q n ++ t) (cond-true (q n) (n ∷ []) [] h))

  upward_more : (n : ℕ) → q n ≡ false → upward q (suc n) ≡ upward q n
  upward_more n h = ap (λ (t : List ℕ). upward q n ++ t) (cond-false (q n) (n ∷ []) [] h) ∙ append-nil (upward q n)

  -- numbers that fail add nothing
  pub upward_skip : (low high : ℕ) → low ≤ high → ((y : ℕ) → low ≤ y → y < high → q y ≡ false) → upward q high ≡ upward q low
  upward_skip low zero l h = let z : low ≡ 0 = omega arith in rw z
  upward_skip low (suc n) l h = elim (cases_lt n low) [
    | inl k ↦ let z : low ≡ suc n = omega arith in rw z
    | inr k ↦ upward_more n (h n k (omega arith)) ∙ upward_skip low n k (λ y a b. h y a (omega arith))
  ]

  pub upward_begins : (low high : ℕ) → low ≤ high → (rest : List ℕ) × (upward q high ≡ upward q low ++ rest)
  upward_begins low zero l = let z : low ≡ 0 = omega arith in ([], rw z)
  upward_begins low (suc n) l = elim (cases_lt n low) [
    | inl k ↦ let z : low ≡ suc n = omega arith in ([], rw z (sym (append-nil (upward q (suc n)))))
    | inr k ↦
        let ih = upward_begins low n k in
        (ih.0 ++ cond (q n) (n ∷ []) [], ap (λ t. t ++ cond (q n) (n ∷ []) []) ih.1 ∙ append_assoc (upward q low) ih.0 (cond (q n) (n ∷ []) []))
  ]

  pub length_upward : (n : ℕ) → length (upward q n) ≤ n
  length_upward zero = omega arith
  length_upward (suc n) = elim (cases_Bool (q n)) [
    | inl t ↦ omega (arith, length_upward n, ap length (ap (λ (u : List ℕ). upward q n ++ u) (cond-true (q n) (n ∷ []) [] t)), length-append (upward q n) (n ∷ []))
    | inr t ↦ omega (arith, length_upward n, ap length (upward_more n t))
  ]

abbrev pub beside : ℕ → List ℕ → List (ℕ × ℕ)
beside x l = map (λ y. (x, y)) l

module _ (p : ℕ → ℕ → Bool) (n : ℕ) where
  pub grid_begins : (low high : ℕ) → low ≤ high → (rest : List (ℕ × ℕ)) × (grid p n high ≡ grid p n low ++ rest)
  grid_begins low zero l = let z : low ≡ 0 = omega arith in ([], rw z)
  grid_begins low (suc m) l = elim (cases_lt m low) [
    | inl k ↦ let z : low ≡ suc m = omega arith in ([], rw z (sym (append-nil (grid p n (suc m)))))
    | inr k ↦
        let ih = grid_begins low m k in
        let row = beside m (upward (p m) n) in
        (ih.0 ++ row, ap (λ t. t ++ row) ih.1 ∙ append_assoc (grid p n low) ih.0 row)
  ]

  pub length_grid : (m : ℕ) → n ≤ 128 → length (grid p n m) ≤ 128 * m
  length_grid zero l = omega arith
  length_grid (suc m) l =
      let row = beside m (upward (p m) n) in
      omega (arith, length_grid m l, length-append (grid p n m) row, length-map {B = ℕ × ℕ} (upward (p m) n) (λ y. (m, y)), length_upward (p m) n)

  module _ (x : ℕ) (inside : x < n) where
    -- the pairs before (x, y)
    abbrev before : ℕ → List (ℕ × ℕ)
    before y = grid p n x ++ beside x (upward (p x) y)

    -- the pair (x, y) comes next
    pub pair_next : (low y : ℕ) → low ≤ y → y < n → p x y ≡ true → ((z : ℕ) → low ≤ z → z < y → p x z ≡ false) → before (y + 1) ≡ before low ++ (x, y) ∷ []
    pair_next low y l b t f =
        ap (λ u. grid p n x ++ beside x u) (upward_one (p x) y t ∙ ap (λ u. u ++ y ∷ []) (upward_skip (p x) low y l f))
        ∙ ap (λ u. grid p n x ++ u) (map-append (λ z. (x, z)) (upward (p x) low) (y ∷ []))
        ∙ sym (append_assoc (grid p n x) (beside x (upward (p x) low)) ((x, y) ∷ []))

    -- and it is one of all
    pub pair_among : (y : ℕ) → y ≤ n → (rest : List (ℕ × ℕ)) × (grid p n n ≡ before y ++ rest)
    pair_among y l =
        let r = upward_begins (p x) y n l in
        let s = grid_begins (suc x) n inside in (
          beside x r.0 ++ s.0,
          s.1
              ∙ ap (λ u. (grid p n x ++ beside x u) ++ s.0) r.1
              ∙ ap (λ u. (grid p n x ++ u) ++ s.0) (map-append (λ z. (x, z)) (upward (p x) y) r.0)
              ∙ ap (λ u. u ++ s.0) (sym (append_assoc (grid p n x) (beside x (upward (p x) y)) (beside x r.0)))
              ∙ append_assoc (before y) (beside x r.0) s.0,
        )

    -- no pair is left with x as the first
    pub row_done : (low : ℕ) → low ≤ n → ((z : ℕ) → low ≤ z → z < n → p x z ≡ false) → before low ≡ grid p n (x + 1)
    row_done low l f = rw add-one (ap (λ u. grid p n x ++ beside x u) (sym (upward_skip (p x) low n l f)))

    pub row_new : (low : ℕ) → ((z : ℕ) → z < low → p x z ≡ false) → before low ≡ grid p n x
    row_new low f = ap (λ u. grid p n x ++ beside x u) (upward_skip (p x) 0 low (omega arith) (λ z a b. f z b)) ∙ append-nil (grid p n x)

-- the element after the front l, under a map
module _ {X Y : Type 0} (f : X → Y) (xs l : List X) (y : X) (rest : List X) (is : xs ≡ (l ++ y ∷ []) ++ rest) where
  split : map f xs ≡ map f l ++ f y ∷ map f rest
  split = ap (map f) (is ∙ append_assoc l (y ∷ []) rest) ∙ map-append f l (y ∷ rest)

  pub next_inside : length l < length (map f xs)
  next_inside = omega (arith, ap length split, length-append (map f l) (f y ∷ map f rest), length-map l f)

  pub next_left : drop (length l) (map f xs) ≡ f y ∷ drop (length l + 1) (map f xs)
  next_left =
      drop_more (map f xs) (length l) (f y) next_inside
      ∙ ap (λ v. v ∷ drop (length l + 1) (map f xs)) (ap (λ t. get_or t (length l) (f y)) split ∙ get_or_at (map f l) (f y) (map f rest) (f y) (length l) (length-map l f))

pub few_events : (chart : Chart) → length (content chart).events ≤ 128
few_events chart =
    let few : vec_len chart.parts.events ≤ 128 = chart.few_events in
    let e = event_count chart.parts in
    omega arith

-- each pair of a grid is inside it
module _ (p : ℕ → ℕ → Bool) (n : ℕ) where
  upward_inside : (q : ℕ → Bool) (m : ℕ) → m ≤ n → All (λ y. y < n) (upward q m)
  upward_inside q zero l = All-nil _
  upward_inside q (suc m) l =
      All-append (λ y. y < n) (upward q m) (cond (q m) (m ∷ []) []) (upward_inside q m (omega arith))
      (elim (q m) as (λ b. All (λ y. y < n) (cond b (m ∷ []) [])) [ true ↦ All-cons (λ y. y < n) m [] (omega arith) (All-nil _) | false ↦ All-nil _ ])

  abbrev pub Inside : ℕ × ℕ → Type 0
  Inside x = (x.0 < n) × (x.1 < n)

  pub grid_inside : (m : ℕ) → m ≤ n → All Inside (grid p n m)
  grid_inside zero l = All-nil _
  grid_inside (suc m) l =
      All-append Inside (grid p n m) (beside m (upward (p m) n)) (grid_inside m (omega arith))
      (All-map Inside (λ y. (m, y)) (upward (p m) n) (All-weaker (λ y. y < n) (λ y. Inside (m, y)) (λ y b. (omega arith, b)) (upward (p m) n) (upward_inside (p m) n (omega arith))))

-- each pair is one of the chart
pub in_chart : (chart : Chart) (rule : Tag → Tag → Bool) (room : ℕ) → All (InChart (content chart)) (races_of (content chart) rule room)
in_chart chart rule room =
    let c = content chart in
    All-map (InChart c) (race_of c) (report c rule room)
    (All-weaker (Inside (is_race c rule room) (length c.events)) (λ x. InChart c (race_of c x)) (λ x b. record { first = b.0; second = b.1; instance = instance_inside c (chart_laid chart) x.0 b.0 })
    (report c rule room) (grid_inside (is_race c rule room) (length c.events) (length c.events) (omega arith)))

module _ (c : Content) (rule : Tag → Tag → Bool) (room : ℕ) where
  abbrev P : ℕ → ℕ → Bool
  P = is_race c rule room

  abbrev N : ℕ
  N = length c.events

  -- the second event of a pair is drawn below the first
  not_above : (x y : ℕ) → y ≤ x → P x y ≡ false
  not_above x y l =
      let s = scene_of c rule room in
      and_left (ltb x y && eqb (instance_of c (event_at c x)) (instance_of c (event_at c y))) (turns s (rows s (length c.messages)) (event_at c x) (event_at c y))
      (and_left (ltb x y) (eqb (instance_of c (event_at c x)) (instance_of c (event_at c y))) (le-ltb x y l))

  pub few_races : N ≤ 128 → length (races_of c rule room) ≤ 16384
  few_races l = omega (arith, length_grid P N N l, length-map (report c rule room) (race_of c))

  pub begun : (f : ℕ) (o : Option Sweep) → f ≤ N → Begins c rule room f o → passed P N o ≡ grid P N f
  begun f None l b = let e : N ≡ f = omega arith in ap (grid P N) e
  begun f (Some w) l (sweeps, first, next) =
      row_new P N w.prospect.first.0 sweeps.foresees.inside w.next (λ z b. not_above w.prospect.first.0 z (omega arith))
      ∙ ap (grid P N) first

  pub goes_on : (f : ℕ) (o : Option Sweep) → Begins c rule room f o → SweepsOn c rule room o
  goes_on f None b = tt
  goes_on f (Some w) b = b.0

  pub fewer : (f : ℕ) (o : Option Sweep) → f < N → Begins c rule room (f + 1) o → unswept c o < N - f
  fewer f None l b = omega arith
  fewer f (Some w) l (sweeps, first, next) = omega arith

  -- all pairs were given
  pub at_end : (o : Option Sweep) (given : ℕ) → Walks c rule room o given → o ≡ None → length (races_of c rule room) ≡ given
  at_end o given walks is = length-map (report c rule room) (race_of c) ∙ sym (walks.gave ∙ ap (λ o. length (passed P N o)) is)

  module _ (o : Option Sweep) (given : ℕ) (walks : Walks c rule room o given) (s : Sweep) (is : o ≡ Some s) where
    pub sweeping : Sweeps c rule room s
    sweeping = subst (SweepsOn c rule room) is walks.sweeps

    given_is : given ≡ length (passed P N (Some s))
    given_is = walks.gave ∙ ap (λ o. length (passed P N o)) is

    -- no pair is left with this first event
    pub row_over : FirstFrom (P s.prospect.first.0) s.next N None → (o' : Option Sweep) → Begins c rule room (s.prospect.first.0 + 1) o' → Walks c rule room o' given
    row_over none o' b =
        let l : s.prospect.first.0 < N = sweeping.foresees.inside in
        record {
          sweeps = goes_on (s.prospect.first.0 + 1) o' b;
          gave =
              given_is
              ∙ ap length (row_done P N s.prospect.first.0 sweeping.foresees.inside s.next sweeping.within none ∙ sym (begun (s.prospect.first.0 + 1) o' (omega arith) b));
        }

    -- a pair is found
    module _ (y : EventId) (found : FirstFrom (P s.prospect.first.0) s.next N (Some y)) where
      abbrev pub on : Sweep
      on = record { prospect = s.prospect; line = s.line; next = y.0 + 1 }

      abbrev pub race : Line → Race
      race l = record { first = s.prospect.first; second = y; instance = l.instance; side = l.side }

      abbrev front : List (ℕ × ℕ)
      front = passed P N (Some s)

      grown : passed P N (Some on) ≡ front ++ (s.prospect.first.0, y.0) ∷ []
      grown = pair_next P N s.prospect.first.0 sweeping.foresees.inside s.next y.0 found.0 found.1 found.2 found.3

      y_inside : y.0 + 1 ≤ N
      y_inside = let l : y.0 < N = found.1 in omega arith

      all : (rest : List (ℕ × ℕ)) × (report c rule room ≡ (front ++ (s.prospect.first.0, y.0) ∷ []) ++ rest)
      all = let r = pair_among P N s.prospect.first.0 sweeping.foresees.inside (y.0 + 1) y_inside in (r.0, r.1 ∙ ap (λ t. t ++ r.0) grown)

      pub given_more : Walks c rule room (Some on) (given + 1)
      given_more =
          record {
            sweeps = record { foresees = sweeping.foresees; within = y_inside; drawn_so = sweeping.drawn_so };
            gave = ap (λ k. k + 1) given_is ∙ sym (ap length grown ∙ length_push front (s.prospect.first.0, y.0));
          }

      pub more_left : given < length (races_of c rule room)
      more_left = rw given_is (next_inside (race_of c) (report c rule room) front (s.prospect.first.0, y.0) all.0 all.1)

      -- it is the first of those that are left
      pub gives_next : drop given (races_of c rule room) ≡ race s.line ∷ drop (given + 1) (races_of c rule room)
      gives_next =
          subst (λ k. drop k (races_of c rule room) ≡ race s.line ∷ drop (k + 1) (races_of c rule room)) (sym given_is)
          (next_left (race_of c) (report c rule room) front (s.prospect.first.0, y.0) all.0 all.1 ∙ ap (λ l. race l ∷ drop (length front + 1) (races_of c rule room)) (sym sweeping.drawn_so))

-- a step of a walk, by what is seen of the walk as it began: v, which shows what is left of these, and how many were given
module _ (first : List Race) (j : ℕ) (v : Course) (seen : record { left = drop j first; given = j } ≡ v) (xs : List Race) (k : ℕ) (same : first ≡ xs) (kept : j ≡ k) where
  seen_now : record { left = drop k xs; given = k } ≡ v
  seen_now = subst (λ (ys : List Race). record { left = drop k ys; given = k } ≡ v) same (subst (λ (i : ℕ). record { left = drop i first; given = i } ≡ v) kept seen)

  pub gives_one : (x : Race) → drop k xs ≡ x ∷ drop (k + 1) xs → Gives v (Some x) (record { left = drop (k + 1) xs; given = k + 1 })
  gives_one x e = (sym (ap (λ (w : Course). w.left) seen_now) ∙ e, ap (λ (w : Course). w.given + 1) seen_now)

  pub gives_none : length xs ≡ k → Gives v None (record { left = drop k xs; given = k })
  gives_none e =
      let none : drop k xs ≡ [] = drop_all k xs (omega arith) in
      (sym (ap (λ (w : Course). w.left) seen_now) ∙ none, none, ap (λ (w : Course). w.given) seen_now)

-- it brings the walk nearer to its end
pub nearer : (s t : Course) (x : Race) → Gives s (Some x) t → MakesProgress (λ _. ⊤) (item_count (λ (w : Course). w.left)) s (Some x) t
nearer s t x (e, n) = let l = ap length e in record { on = λ _. (tt, tt, omega arith); keeps = tt; rests = λ _. tt }
