-- What a chart over a delivery means.
use Rattle.std.specs.Prelude.{ℕ, Bool, List}
use Rattle.chart.specs.Charted.{content}
use Rattle.delivery.specs.declared.parcel.Tag.{Tag}
use Rattle.order.specs.Order.{Scene}
use Rattle.order.specs.Scenes.{scene_of}
use Rattle.analysis.specs.Races.{races_of}
use Rattle.analysis.specs.Walking as walking
use Rattle.analysis.specs.declared.races.Race.{Race}
use Rattle.analysis.specs.declared.setting.Setting.{Setting}

module _ {D : Type 0} (rule : D → Tag → Tag → Bool) (room : D → ℕ) (s : Setting D) where
  abbrev pub scene : Scene
  scene = scene_of (content s.chart.now) (rule s.delivery.now) (room s.delivery.now)

  -- whether the events number a and b are a reversible pair
  abbrev pub is_race : ℕ → ℕ → Bool
  is_race = walking.is_race (content s.chart.now) (rule s.delivery.now) (room s.delivery.now)

  abbrev pub races_in : List Race
  races_in = races_of (content s.chart.now) (rule s.delivery.now) (room s.delivery.now)
