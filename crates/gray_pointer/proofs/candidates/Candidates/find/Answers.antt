-- One register more, and in the end all.
use Rattle.std.proofs.Common.{◌∙◌, sym, ap, subst, inl, inr, slice_get, not, arith}
use Rattle.std.proofs.lemmas.Option.{slice_get_within, get_or_from_slice_get}
use Rattle.cdc_model.proofs.Justify.{slice_in}
use Rattle.gray_pointer.specs.declared.register.Register.{Register}
use Rattle.gray_pointer.specs.Counters.{IsKey, IsAmong, IsPlaced}
use Rattle.gray_pointer.specs.Shapes.{IsRegisterIn}
use Rattle.gray_pointer.specs.Taken.{IsChange}
use Rattle.gray_pointer.proofs.Bits.{first_or_later}
use Rattle.gray_pointer.proofs.Idle.{not_idle}
use Rattle.gray_pointer.proofs.candidates.Candidates.find.Goals as goal
use Rattle.gray_pointer.proofs.candidates.Candidates.find.Goals.{then-is_none+in_ok-add_place, else-is_none}

pub loop-place-preserved : goal.loop-place-preserved
loop-place-preserved c = λ plain all place r lt at idle.
    let g = c.args.net.now.graph in
    let rs = c.args.registers.now in
    let i = c.loop-place.place in
    let inside = (all r (slice_in rs place r at)).0 in
    elim c.if-is_none.branch [
      | then-is_none+in_ok-add_place w ↦ subst (λ m. IsPlaced g r m place) (sym w.idle-is) (elim (first_or_later place i (omega arith)) [
        | inl same ↦ let is = get_or_from_slice_get rs i r _ (ap (slice_get rs) (sym same) ∙ at) in (
          w.key_of-key.result,
          subst (λ (q : Register). IsKey g q q.start w.key_of-key.result) is (w.key_of-key.ensures plain (subst (IsRegisterIn g) (sym is) inside)),
          subst (IsAmong _) (sym same) w.in_ok-add_place.ensures.added,
        )
        | inr less ↦ let h = c.loop-place.invariant plain all place r less at idle in (h.0, h.1, w.in_ok-add_place.ensures.kept h.0 place h.2)
      ])
      | else-is_none w ↦ subst (λ m. IsPlaced g r m place) (sym w.idle-is) (elim (first_or_later place i (omega arith)) [
        | inl same ↦ let is = get_or_from_slice_get rs i r _ (ap (slice_get rs) (sym same) ∙ at) in
            absurd (not_idle g r c.in_ok-changed_word.field-0 (c.is_none.ensures ∙ ap not w.if-is_none.false)
            (subst (λ (q : Register). IsChange g q c.in_ok-changed_word.field-0) is (c.in_ok-changed_word.ensures plain (subst (IsRegisterIn g) (sym is) inside))) idle)
        | inr less ↦ c.loop-place.invariant plain all place r less at idle
      ])
    ]

pub returns : goal.returns
returns c = λ plain all place r at. c.loop-place.invariant plain all place r
    (let l = slice_get_within c.args.registers.now place r at in let k = c.loop-place-test.false in omega arith) at
