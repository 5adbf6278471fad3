-- The form is by the choice that the next value is, or isn't.
use Rattle.std.proofs.Common.{refl, sym, subst}
use Rattle.gray_pointer.specs.Counters.{HasForm}
use Rattle.gray_pointer.specs.Words.{IsChoice}
use Rattle.gray_pointer.proofs.candidates.key_of.Goals as goal
use Rattle.gray_pointer.proofs.candidates.key_of.Goals.{in-Some, in-None}

pub returns : goal.returns
returns c = λ plain is.
    let g = c.args.net.now.graph in
    let r = c.args.register.now in
    let h = c.choice_of.ensures plain is.1 in record {
      clock = refl;
      width = refl;
      start = refl;
      form = elim c.match-choice_of.branch [
        | in-Some w ↦ subst (HasForm g r) (sym w.form-is) (w.in-Some.choice, subst (IsChoice g r.next r.width) w.in-Some.is h, refl)
        | in-None w ↦ subst (HasForm g r) (sym w.form-is) (subst (IsChoice g r.next r.width) w.in-None.is h)
      ];
    }
