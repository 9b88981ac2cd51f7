-- What is given of a frame: its code, where its body stands, and the next place.
use Rattle.std.specs.Prelude.{ℕ, List, [], ◌∷◌}
use Rattle.frame_read.specs.declared.Frame.{Frame}

abbrev pub frame_next : Frame → ℕ → List ℕ
frame_next f next = f.code ∷ f.body.start.0 ∷ f.body.len ∷ next ∷ []
