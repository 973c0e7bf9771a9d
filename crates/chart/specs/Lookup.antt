-- The place of a name in a list.
use Rattle.std.specs.Prelude.{ℕ, suc, Bool, cond, List, [], ◌∷◌, is_some, Some, None, Option}
use Rattle.std.specs.Option.{option_map}
use Rattle.std.specs.Str.{bytes_eq}
use Rattle.chart.specs.Words.{Text}

-- the first element that is called t
abbrev pub seek : {X : Type 0} → (X → Text) → Text → List X → Option ℕ
seek called t [] = None
seek called t (x ∷ xs) = cond (bytes_eq (called x) t) (Some 0) (option_map suc (seek called t xs))

-- whether t is one of the names
abbrev pub among : Text → List Text → Bool
among t ts = is_some (seek (λ x. x) t ts)
