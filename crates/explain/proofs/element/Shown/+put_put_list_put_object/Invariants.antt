use Rattle.std.proofs.Common.{◌+◌, ◌*◌}
use Rattle.tape.specs.Ahead.{rest, pairs_rest}
use Rattle.explain.proofs.Joins.{Leads}
use Rattle.explain.proofs.Elements.{items_text, members_text}
use Rattle.explain.proofs.element.Shown.+put_put_list_put_object.Given as goal

-- the brackets still allowed, twice, so that an element may pass itself on as a list or an object
abbrev pub decreases-put : goal.decreases-put
decreases-put l = 2 * l.self.depth + 1

abbrev pub decreases-put_list : goal.decreases-put_list
decreases-put_list l = 2 * l.self.depth

abbrev pub decreases-put_object : goal.decreases-put_object
decreases-put_object l = 2 * l.self.depth

abbrev pub invariant-put_list-loop-item : goal.invariant-put_list-loop-item
invariant-put_list-loop-item l =
    (goal.iterator-put_list-loop-item).can_next l.item-iterator
    × (goal.iterator-put_list-loop-item).is_finite l.item-iterator
    × Leads (items_text l.self l.initial.between (rest l.initial.item-iterator)) l.initial.w (items_text l.self l.between (rest l.item-iterator)) l.w

abbrev pub invariant-put_object-loop-name : goal.invariant-put_object-loop-name
invariant-put_object-loop-name l =
    (goal.iterator-put_object-loop-name).can_next l.name-iterator
    × (goal.iterator-put_object-loop-name).is_finite l.name-iterator
    × Leads (members_text l.self (pairs_rest l.initial.name-iterator)) l.initial.w (members_text l.self (pairs_rest l.name-iterator)) l.w
