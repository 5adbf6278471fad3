-- The whole is a sum of the own word and 0 or 1, in either order.
use Rattle.std.proofs.Common.{◌≡◌, ◌∙◌, sym, subst, inl, inr, true, false}
use Rattle.gray_pointer.specs.Words.{IsWhole}
use Rattle.gray_pointer.proofs.Wholes.{one_word, another_word, plus_left, plus_right, plus_parts, no_plus}
use Rattle.gray_pointer.proofs.word.is_plus.Goals as goal

pub returns-then-is_plus_of : goal.returns-then-is_plus_of
returns-then-is_plus_of c = λ plain shown has wide.
    let g = c.args.net.now.graph in
    let id = c.args.cell in
    let w = c.args.register.now.width in
    let sig = c.args.register.now.sig in
    let whole = c.in-Some.whole in
    let is = subst (IsWhole g id w) c.in-Some.is (c.whole_origin.ensures plain has) in
    let at = sym c.cell.ensures ∙ c.in-Add.is in
    let one = one_word g plain id w has whole is c.in-Add.a c.in-Add.b at in
    let another = another_word g plain id w has whole is c.in-Add.a c.in-Add.b at in
    (λ t. let h = (c.is_plus_of.ensures plain shown one another wide).0 t in plus_left g plain id w has whole is c.in-Add.a c.in-Add.b at sig h.0 h.1, λ p. c.if-is_plus_of.true)

pub returns-else-is_plus_of : goal.returns-else-is_plus_of
returns-else-is_plus_of c = λ plain shown has wide.
    let g = c.args.net.now.graph in
    let id = c.args.cell in
    let w = c.args.register.now.width in
    let sig = c.args.register.now.sig in
    let whole = c.in-Some.whole in
    let is = subst (IsWhole g id w) c.in-Some.is (c.whole_origin.ensures plain has) in
    let at = sym c.cell.ensures ∙ c.in-Add.is in
    let one = one_word g plain id w has whole is c.in-Add.a c.in-Add.b at in
    let another = another_word g plain id w has whole is c.in-Add.a c.in-Add.b at in (
      λ t. let h = (c.is_plus_of-else-is_plus_of.ensures plain shown another one wide).0 t in plus_right g plain id w has whole is c.in-Add.a c.in-Add.b at sig h.0 h.1,
      λ p. elim (plus_parts g plain id w has whole is c.in-Add.a c.in-Add.b at sig p) [
        | inl h ↦ let t : true ≡ false = sym ((c.is_plus_of.ensures plain shown one another wide).1 h) ∙ c.if-is_plus_of.false in cc
        | inr h ↦ (c.is_plus_of-else-is_plus_of.ensures plain shown another one wide).1 h
      ],
    )

pub returns-in_default-cell : goal.returns-in_default-cell
returns-in_default-cell c = λ plain shown has wide.
    let g = c.args.net.now.graph in
    let id = c.args.cell in
    let w = c.args.register.now.width in
    let is = subst (IsWhole g id w) c.in-Some.is (c.whole_origin.ensures plain has) in
    (λ t. cc, λ p. absurd (no_plus g plain id w has c.in-Some.whole is c.args.register.now.sig (λ a b e. c.in_default-cell.not-Add a b (c.cell.ensures ∙ e)) p))
