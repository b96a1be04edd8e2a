-- The elements of the code, by what they mean.
use Rattle.std.specs.Prelude.{true, false}
use Rattle.tape.specs.View.{Elem, object, list, string, number, i64, i32, bool, null}
use Rattle.tape.specs.declared.element.Element.{Element}
use Rattle.tape.specs.declared.element.Element.TheVariants.{Object, List as ListOf, String, Number, I64, I32, True, False, Null}

-- what an element of the code means
abbrev pub elem_of : Element → Elem
elem_of Object = object
elem_of ListOf = list
elem_of (String s) = string s.now
elem_of (Number s) = number s.now
elem_of (I64 n) = i64 n
elem_of (I32 n) = i32 n
elem_of True = bool true
elem_of False = bool false
elem_of Null = null
