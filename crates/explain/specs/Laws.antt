-- What holds of the text of every element.
use Rattle.std.specs.Prelude.{◌≡◌, ℕ, true, map}
use Rattle.tape.specs.Opens.{Untorn}
use Rattle.tape.specs.View.{TapeView, element_at, entries, is_position}
use Rattle.explain.specs.Nested.{nested, whole_text}

-- it has the whole texts of its entries, at whatever depth: nothing is cut
abbrev pub NeverCut : Type 0
NeverCut = (t : TapeView) → Untorn t → (p : ℕ) → is_position t p ≡ true → whole_text t p ≡ nested (element_at t p) (map (whole_text t) (entries t p))
