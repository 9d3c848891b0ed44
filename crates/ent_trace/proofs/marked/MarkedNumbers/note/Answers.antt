use Rattle.std.proofs.Common.{subst, sym}
use Rattle.ent_trace.specs.proofs_only.Marks.{AreMarked}
use Rattle.ent_trace.proofs.Marking.{marked_more, marked_room}
use Rattle.ent_trace.proofs.marked.MarkedNumbers.note.Goals as goal

pub invariant_of-self : goal.invariant_of-self
invariant_of-self c = marked_room c.self.inside.stamp c.self.inside.marks.items c.make_room.new.marks.items c.self.inside.numbers.items c.make_room.ensures.room c.self.invariant

pub invariant_of-self-in_err-push : goal.invariant_of-self-in_err-push
invariant_of-self-in_err-push c =
    subst (AreMarked c.self.inside.stamp c.make_room.new.marks.items) (sym c.in_err-push.ensures.items)
    (marked_room c.self.inside.stamp c.self.inside.marks.items c.make_room.new.marks.items c.self.inside.numbers.items c.make_room.ensures.room c.self.invariant)

pub invariant_of-self-2 : goal.invariant_of-self-2
invariant_of-self-2 c =
    subst (AreMarked c.self.inside.stamp _) (sym c.in_ok-push.ensures.items)
    (marked_more c.self.inside.stamp c.make_room.new.marks.items c.self.inside.numbers.items c.args.number
    (marked_room c.self.inside.stamp c.self.inside.marks.items c.make_room.new.marks.items c.self.inside.numbers.items c.make_room.ensures.room c.self.invariant)
    c.in_ok-make_room.ensures.there)
