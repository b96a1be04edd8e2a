-- The children that an iterator has left.
use Rattle.std.specs.Prelude.{ℕ, List}
use Rattle.schema.specs.declared.children.Children.{Children}
use Rattle.schema.specs.Opened.{records_of}
use Rattle.schema.specs.Siblings.{siblings}

abbrev pub rest : Children → List ℕ
rest s = siblings (records_of s.schema) s.at s.left
