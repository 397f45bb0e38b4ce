-- The corners that a kind tells, as a list of prices.
use Rattle.std.specs.Prelude.{ℕ, List, [], ◌∷◌}
use Rattle.kinds.specs.declared.corners.Corners.{Corners}
use Rattle.kinds.specs.declared.corners.Corners.TheVariants.{Zero, One, Two}

abbrev pub prices : Corners → List ℕ
prices Zero = []
prices (One x) = x ∷ []
prices (Two x y) = x ∷ y ∷ []
