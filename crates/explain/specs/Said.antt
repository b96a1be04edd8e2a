-- What the sentences of the code say, and which of them a fault has.
use Rattle.std.specs.Prelude.{◌≡◌, ℕ, true, false, List, Option, MatchOption}
use Rattle.slip.specs.declared.Fault.{Fault}
use Rattle.tape.specs.Opened.{view_of}
use Rattle.tape.specs.View.{TapeView}
use Rattle.schema.specs.declared.settings.Settings.{Settings}
use Rattle.schema.specs.Tree.{Node}
use Rattle.explain.specs.declared.element.Shown.{Shown}
use Rattle.explain.specs.declared.sentence.Sentence.{Sentence}
use Rattle.explain.specs.declared.sentence.Sentence.TheVariants.{WrongKind, UnknownColumn, ExtraColumn, FewColumns, WrongCount}
use Rattle.explain.specs.Explanation.{wrong_kind, unknown_column, extra_column, few_columns, wrong_count, fits, sentence}
use Rattle.explain.specs.Nested.{element_text}

-- an element of the code, as it is shown
abbrev pub shown : Shown → List ℕ
shown e = element_text (view_of e.tape) e.depth e.p

-- a sentence
abbrev pub said : Sentence → List ℕ
said (WrongKind word element) = wrong_kind word.now (shown element)
said (UnknownColumn name) = unknown_column name.now
said (ExtraColumn fields) = extra_column fields
said (FewColumns columns fields) = few_columns columns fields
said (WrongCount wanted found) = wrong_count wanted found

-- a fault that fits has its sentence, and no other has one
abbrev pub Tells : Node → TapeView → Settings → (own : List ℕ) → Fault → Option Sentence → Type 0
Tells root t s own f r = MatchOption r (fits root t f ≡ false) (λ x. (fits root t f ≡ true) × (said x ≡ sentence root t s own f))
