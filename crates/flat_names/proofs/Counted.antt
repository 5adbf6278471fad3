-- Settled pieces, and operators over counted pieces.
use Rattle.std.proofs.Common.{◌≡◌, ◌≢◌, ◌⊎◌, inl, inr, ℕ, ◌^◌, ◌<◌, ◌≤◌, max, Bool, true, false, cond, not, ◌&&◌, ◌||◌, List, [], ◌∷◌, ◌++◌, Option, Some, None, is_some, refl, sym, ap, ap₂, subst, ◌∙◌, arith}
use Rattle.std.specs.Prelude.{option_and_then, unwrap_or}
use Rattle.std.proofs.lemmas.Bool.{false≢true}
use Rattle.verilog_ast.specs.declared.UnaryOp.{UnaryOp}
use Rattle.verilog_ast.specs.declared.BinaryOp.{BinaryOp}
use Rattle.flat_meaning.specs.Flat.{Binary, Choose, binary_size}
use Rattle.flat_form.specs.declared.flat.FExpr.{FExpr}
use Rattle.flat_form.specs.View.{expr_of, binary_of}
use Rattle.flat_form.specs.Sizes.{Kept, kept_of, is_sized}
use Rattle.flat_form.specs.Whole as form
use Rattle.flat_unfolding.specs.Outcome.{Broken, breaks_if}
use Rattle.flat_unfolding.specs.Names.{Look}
use Rattle.flat_unfolding.specs.Constants.{both, own_unary, within, whole_unary, whole_binary}
use Rattle.flat_unfolding.specs.Expressions.{Term, also, is_empty, is_sound, unary_term, binary_term, choice_term, is_whole_only}
use Rattle.flat_names.specs.declared.resolved.Count.{Count}
use Rattle.flat_names.specs.declared.resolved.Resolved.{Resolved}
use Rattle.flat_names.specs.Noting.{Noted, noted, all_noted}
use Rattle.flat_names.specs.declared.signs.Signs.{Signs}
use Rattle.flat_names.specs.Signs.{number_signs, judged_signs, unary_signs, binary_signs, choice_signs, orders_signed}
use Rattle.flat_names.specs.Pieces.{EachIs, IsRead, Makes, IsOver, Piece, IsPiece, IsFitPiece, out_of_range, as_part, pending, numbered, flagged, judged_piece, unary_piece, binary_piece, choice_piece, binary_notes, choice_notes}
use Rattle.flat_names.proofs.Notes.{noted-once, then-noted}
use Rattle.flat_names.proofs.Options.{none-some}
use Rattle.flat_names.proofs.Wholes.{within-below, within-limit, binary-whole, choice-whole}
use Rattle.flat_names.proofs.Terms.{with_size, empty-both, is-unary, is-binary, is-choice, counted-own, counted-binary, counted-max, counted-is, counted-whole, counted-of, open-of, number-piece, flag-piece, open-piece}
use Rattle.flat_names.proofs.Fit.{then-within, both-within, choice-within}

pub empty-none : {A : Type 0} (xs : List A) → is_empty xs ≡ true → xs ≡ []
empty-none [] h = refl
empty-none (a ∷ xs) h = absurd (false≢true h)

and-false : (b : Bool) → (b && false) ≡ false
and-false true = refl
and-false false = refl

-- ---- settled pieces

pub settled-sound : (f : Noted) (p : Piece) (r : Resolved) → IsPiece p r → r.is_sound ≡ true → f ≡ all_noted f (pending p)
settled-sound f p r h s = ap (all_noted f) (sym (go (is_some p.size)))
  where
    none : p.term.broken ≡ []
    none = empty-none p.term.broken (sym h.is.sound ∙ s)

    go : (b : Bool) → cond b p.term.broken [] ≡ []
    go true = none
    go false = refl

pub settled-open : (f : Noted) (p : Piece) (r : Resolved) → IsPiece p r → r.count ≡ None → f ≡ all_noted f (pending p)
settled-open f p r h e = ap (λ s. all_noted f (cond (is_some s) p.term.broken [])) (sym (open-of p r h e))

once : (f : Noted) (bs : List Broken) → is_empty bs ≡ false → EachIs (λ b. b ≡ out_of_range) bs → noted f out_of_range ≡ all_noted f bs
once f [] e h = absurd (false≢true (sym e))
once f (b ∷ bs) e h = sym (ap (λ x. all_noted (noted f x) bs) h.0 ∙ noted-once f out_of_range bs h.1)

pub settled-unsound : (f : Noted) (p : Piece) (r : Resolved) (c : Count) → IsPiece p r → IsFitPiece p → r.count ≡ Some c → r.is_sound ≡ false → noted f out_of_range ≡ all_noted f (pending p)
settled-unsound f p r c h i e s =
    let k = counted-of p r c h e in
    once f p.term.broken (sym h.is.sound ∙ s) (i.bounds k.0 k.1) ∙ ap (λ o. all_noted f (cond (is_some o) p.term.broken [])) (sym k.1)

pub settled-noted : (f : Noted) (p : Piece) (r : Resolved) → IsPiece p r → IsFitPiece p → is_some r.count ≡ true → r.is_sound ≡ false → noted f out_of_range ≡ all_noted f (pending p)
settled-noted f p r h i e s = go r.count refl e
  where
    go : (o : Option Count) → r.count ≡ o → is_some o ≡ true → noted f out_of_range ≡ all_noted f (pending p)
    go None d n = absurd (false≢true n)
    go (Some c) d n = settled-unsound f p r c h i d s

-- a part without a size of its own
pub part-unsized : (f g h : Noted) (p : Piece) (r : Resolved) → IsPiece p r → g ≡ all_noted f (pending p) → h ≡ noted g (record { number = 308; name = []; place = None }) → r.signs.is_unsized ≡ true
    → IsRead (as_part p) (record r { is_sound = false }) × (h ≡ all_noted f (pending p ++ breaks_if p.signs.is_unsized 308 []))
part-unsized f g h p r i e d u =
    let unsized : p.signs.is_unsized ≡ true = ap (λ (s : Signs). s.is_unsized) (sym i.signs) ∙ u in (
      record {
        sound = sym (empty-both p.term.broken (breaks_if p.signs.is_unsized 308 []) ∙ ap (λ b. is_sound p.term && is_empty (breaks_if b 308 [])) unsized ∙ and-false (is_sound p.term));
        constant = i.is.constant;
        expr = λ s. absurd (false≢true s);
        sized = λ s. absurd (false≢true s);
        reads = i.is.reads;
      },
      then-noted f g h (pending p) (breaks_if p.signs.is_unsized 308 []) e (d ∙ ap (λ b. all_noted g (breaks_if b 308 [])) (sym unsized)),
    )

-- ---- counted pieces

pub whole-fits : (p : Piece) (k : ℕ) → IsFitPiece p → p.size ≡ Some k → (n : ℕ) → p.whole ≡ Some n → n < 2 ^ k
whole-fits p k h e n d = counted-is k (λ j. within j n ≡ Some n → n < 2 ^ j) (h.sizes k e) (λ i. within-limit 1 n n i) (λ i. let l = within-limit 32 n n i in omega arith) (h.wholes k n e d)

pub size-small : (p : Piece) (k : ℕ) → IsFitPiece p → p.size ≡ Some k → k ≤ 64
size-small p k h e = counted-is k (λ j. j ≤ 64) (h.sizes k e) (omega arith) (omega arith)

judged-number : (l : Look) (k : ℕ) (v : Option ℕ) (t : Term) (g : Signs) → k ≡ 32 → ((n : ℕ) → v ≡ Some n → within k n ≡ Some n) → IsPiece (judged_piece l (Some k) v t g) (numbered v (unwrap_or v 0) 32 number_signs)
judged-number l k v t g e h = subst (λ j. IsPiece (judged_piece l (Some j) v t g) (numbered v (unwrap_or v 0) 32 number_signs)) (sym e)
    (number-piece l v t g (λ n d. let b = within-below k n n (h n d) in omega arith))

judged-flag : (l : Look) (k : ℕ) (v : Option ℕ) (t : Term) (e : FExpr) (s : Bool) (g z : Signs) → k ≡ 1 → IsRead t (flagged e s v z) → (kept_of e).width ≡ k → z ≡ judged_signs (Some 1) g
    → IsPiece (judged_piece l (Some k) v t g) (flagged e s v z)
judged-flag l k v t e s g z d h i j = subst (λ u. IsPiece (judged_piece l (Some u) v t g) (flagged e s v z)) (sym d) (flag-piece l v t e s g z h (i ∙ d) j)

-- ---- a unary operator

-- its value, where the operand counts with the size k
abbrev pub unary_value : UnaryOp → ℕ → Option ℕ → Option ℕ
unary_value op k a = option_and_then (λ m. option_and_then (within (own_unary op k)) (whole_unary op k m)) a

pub unary-number : (l : Look) (op : UnaryOp) (p : Piece) (k : ℕ) (v : Option ℕ) → IsFitPiece p → p.size ≡ Some k → own_unary op k ≢ 1 → v ≡ unary_value op k p.whole
    → IsPiece (unary_piece l op p) (numbered v (unwrap_or v 0) 32 number_signs)
unary-number l op p k v h e d value =
    let u = own_unary op k in
    subst (λ s. IsPiece (unary_piece l op (with_size p s)) (numbered v (unwrap_or v 0) 32 number_signs)) (sym e)
    (subst (λ x. IsPiece (judged_piece l (Some u) x (unary_term op p.term) (unary_signs op p.signs)) (numbered v (unwrap_or v 0) 32 number_signs)) value
    (judged-number l u v (unary_term op p.term) (unary_signs op p.signs) (counted-whole u (counted-own op k (h.sizes k e)) d) (λ n j. then-within u (whole_unary op k) p.whole n (sym value ∙ j))))

pub unary-flag : (l : Look) (op : UnaryOp) (p : Piece) (a : Resolved) (x : FExpr) (k : ℕ) (v : Option ℕ) (z : Signs) → IsPiece p a → IsFitPiece p → p.size ≡ Some k → own_unary op k ≡ 1 → v ≡ unary_value op k p.whole
    → IsOver op a.expr x → z ≡ unary_signs op a.signs → IsPiece (unary_piece l op p) (flagged x a.is_sound v z)
unary-flag l op p a x k v z g h e d value m f =
    let u = own_unary op k in
    let shape = is-unary op p.term a x (Some (record { whole = v })) z g.is m in
    let constant : a.is_constant ≡ true = g.is.constant ∙ h.constant k e in
    subst (λ s. IsPiece (unary_piece l op (with_size p s)) (flagged x a.is_sound v z)) (sym e)
    (subst (λ y. IsPiece (judged_piece l (Some u) y (unary_term op p.term) (unary_signs op p.signs)) (flagged x a.is_sound v z)) value
    (judged-flag l u v (unary_term op p.term) x a.is_sound (unary_signs op p.signs) z d
    (subst (λ b. IsRead (unary_term op p.term) (record { expr = x; is_sound = a.is_sound; is_constant = b; count = Some (record { whole = v }); signs = z })) constant shape)
    (ap (λ (y : Kept). y.width) m.kept ∙ ap (own_unary op) (g.width k e))
    (f ∙ ap (unary_signs op) g.signs)))

pub unary-open : (l : Look) (op : UnaryOp) (p : Piece) (a : Resolved) (x : FExpr) (z : Signs) → IsPiece p a → a.count ≡ None → IsOver op a.expr x
    → z ≡ unary_signs op a.signs → IsPiece (unary_piece l op p) (record { expr = x; is_sound = a.is_sound; is_constant = a.is_constant; count = None; signs = z })
unary-open l op p a x z g e m f =
    subst (λ s. IsPiece (unary_piece l op (with_size p s)) (record { expr = x; is_sound = a.is_sound; is_constant = a.is_constant; count = None; signs = z })) (sym (open-of p a g e))
    (open-piece l _ (unary_term op p.term) (unary_signs op p.signs) _ (is-unary op p.term a x None z g.is m) refl (f ∙ ap (unary_signs op) g.signs))

-- ---- a binary operator

and-true : (b : Bool) → (b && true) ≡ b
and-true true = refl
and-true false = refl

or-false : (b : Bool) → (b || false) ≡ b
or-false true = refl
or-false false = refl

-- a counted comparison is none of signed operands
abbrev quiet_term : BinaryOp → Piece → Piece → Term
quiet_term op p q = also (binary_term op p.term q.term) (breaks_if (orders_signed op p.signs q.signs && false) 307 [])

signs-are : (op : BinaryOp) (p q : Piece) (a b : Resolved) (z : Signs) → IsPiece p a → IsPiece q b → z ≡ binary_signs op a.signs b.signs → z ≡ binary_signs op p.signs q.signs
signs-are op p q a b z g h e = e ∙ ap₂ (binary_signs op) g.signs h.signs

pub binary-number : (l : Look) (op : BinaryOp) (p q : Piece) (j k : ℕ) (v : Option ℕ) → IsFitPiece p → IsFitPiece q → p.size ≡ Some j → q.size ≡ Some k → binary_size (binary_of op) j k ≢ 1
    → v ≡ form.binary_whole op (binary_size (binary_of op) j k) p.whole q.whole → IsPiece (binary_piece l op p q) (numbered v (unwrap_or v 0) 32 number_signs)
binary-number l op p q j k v h i e d n m =
    let u = binary_size (binary_of op) j k in
    let value = m ∙ binary-whole op u p.whole q.whole in
    subst (λ s. IsPiece (binary_piece l op (with_size p s) q) (numbered v (unwrap_or v 0) 32 number_signs)) (sym e)
    (subst (λ s. IsPiece (binary_piece l op (with_size p (Some j)) (with_size q s)) (numbered v (unwrap_or v 0) 32 number_signs)) (sym d)
    (subst (λ x. IsPiece (judged_piece l (Some u) x (quiet_term op p q) (binary_signs op p.signs q.signs)) (numbered v (unwrap_or v 0) 32 number_signs)) value
    (judged-number l u v (quiet_term op p q) (binary_signs op p.signs q.signs) (counted-whole u (counted-binary (binary_of op) j k (h.sizes j e) (i.sizes k d)) n) (λ n o. both-within u (whole_binary op) p.whole q.whole n (sym value ∙ o)))))

pub binary-flag : (l : Look) (op : BinaryOp) (p q : Piece) (a b : Resolved) (x : FExpr) (j k : ℕ) (s : Bool) (v : Option ℕ) (z : Signs) → IsPiece p a → IsFitPiece p → IsPiece q b → IsFitPiece q
    → p.size ≡ Some j → q.size ≡ Some k → binary_size (binary_of op) j k ≡ 1 → v ≡ form.binary_whole op (binary_size (binary_of op) j k) p.whole q.whole
    → Makes x (Binary (binary_of op) (expr_of a.expr) (expr_of b.expr)) (record { width = binary_size (binary_of op) (kept_of a.expr).width (kept_of b.expr).width; right = is_sized a.expr && is_sized b.expr })
    → s ≡ ((a.is_sound && b.is_sound) && not (is_whole_only op)) → z ≡ binary_signs op a.signs b.signs → IsPiece (binary_piece l op p q) (flagged x s v z)
binary-flag l op p q a b x j k s v z g h f i e d n m o t y =
    let u = binary_size (binary_of op) j k in
    let value = m ∙ binary-whole op u p.whole q.whole in
    let constant : true ≡ (a.is_constant && b.is_constant) = sym (ap₂ (λ y z. y && z) (g.is.constant ∙ h.constant j e) (f.is.constant ∙ i.constant k d)) in
    let none = orders_signed op p.signs q.signs && false in
    let sound : s ≡ ((a.is_sound && b.is_sound) && not (is_whole_only op || none)) = t ∙ ap (λ w. (a.is_sound && b.is_sound) && not w) (sym (ap (λ w. is_whole_only op || w) (and-false (orders_signed op p.signs q.signs)) ∙ or-false (is_whole_only op))) in
    let shape = is-binary op p.term q.term a b x _ s true none (Some (record { whole = v })) z g.is f.is o sound constant in
    let width : (kept_of x).width ≡ u = ap (λ (y : Kept). y.width) o.kept ∙ ap₂ (binary_size (binary_of op)) (g.width j e) (f.width k d) in
    subst (λ r. IsPiece (binary_piece l op (with_size p r) q) (flagged x s v z)) (sym e)
    (subst (λ r. IsPiece (binary_piece l op (with_size p (Some j)) (with_size q r)) (flagged x s v z)) (sym d)
    (subst (λ w. IsPiece (judged_piece l (Some u) w (quiet_term op p q) (binary_signs op p.signs q.signs)) (flagged x s v z)) value
    (judged-flag l u v (quiet_term op p q) x s (binary_signs op p.signs q.signs) z n shape width (signs-are op p q a b z g f y))))

no-both : {A B C : Type 0} (f : A → B → C) (o : Option A) → both f o None ≡ None
no-both f None = refl
no-both f (Some a) = refl

-- one of the two isn't counted
pub binary-open : (l : Look) (op : BinaryOp) (p q : Piece) (a b : Resolved) (x : FExpr) (n : ℕ) (s c : Bool) (z : Signs) → IsPiece p a → IsPiece q b → both (λ j k. k) p.size q.size ≡ None
    → Makes x (Binary (binary_of op) (expr_of a.expr) (expr_of b.expr)) (record { width = n; right = is_sized a.expr && is_sized b.expr })
    → s ≡ ((a.is_sound && b.is_sound) && not (is_whole_only op || orders_signed op a.signs b.signs)) → c ≡ (a.is_constant && b.is_constant) → z ≡ binary_signs op a.signs b.signs
    → IsPiece (binary_piece l op p q) (record { expr = x; is_sound = s; is_constant = c; count = None; signs = z })
binary-open l op p q a b x n s c z g f e m es ec ez = go p.size q.size e
  where
    r : Resolved
    r = record { expr = x; is_sound = s; is_constant = c; count = None; signs = z }

    ordered : Bool
    ordered = orders_signed op p.signs q.signs && true

    ordered_is : orders_signed op a.signs b.signs ≡ ordered
    ordered_is = ap₂ (orders_signed op) g.signs f.signs ∙ sym (and-true (orders_signed op p.signs q.signs))

    form : IsRead (also (binary_term op p.term q.term) (breaks_if ordered 307 [])) r
    form = is-binary op p.term q.term a b x n s c ordered None z g.is f.is m (es ∙ ap (λ w. (a.is_sound && b.is_sound) && not (is_whole_only op || w)) ordered_is) ec

    go : (j k : Option ℕ) → both (λ j k. k) j k ≡ None → IsPiece (binary_piece l op (with_size p j) (with_size q k)) r
    go None None d = open-piece l _ (also (binary_term op p.term q.term) (breaks_if ordered 307 [])) (binary_signs op p.signs q.signs) r form refl (signs-are op p q a b z g f ez)
    go None (Some k) d = open-piece l _ (also (binary_term op p.term q.term) (breaks_if ordered 307 [])) (binary_signs op p.signs q.signs) r form refl (signs-are op p q a b z g f ez)
    go (Some j) None d = open-piece l _ (also (binary_term op p.term q.term) (breaks_if ordered 307 [])) (binary_signs op p.signs q.signs) r form refl (signs-are op p q a b z g f ez)
    go (Some j) (Some k) d = none-some k (sym d)

-- ---- a choice

pub choice-number : (l : Look) (p q o : Piece) (i j k : ℕ) (v : Option ℕ) → IsFitPiece p → IsFitPiece q → IsFitPiece o → p.size ≡ Some i → q.size ≡ Some j → o.size ≡ Some k → max j k ≢ 1
    → v ≡ form.choice_whole (max j k) p.whole q.whole o.whole → IsPiece (choice_piece l p q o) (numbered v (unwrap_or v 0) 32 number_signs)
choice-number l p q o i j k v fp fq fo ep eq eo n m =
    let value = m ∙ choice-whole (max j k) p.whole q.whole o.whole in
    subst (λ s. IsPiece (choice_piece l (with_size p s) q o) (numbered v (unwrap_or v 0) 32 number_signs)) (sym ep)
    (subst (λ s. IsPiece (choice_piece l (with_size p (Some i)) (with_size q s) o) (numbered v (unwrap_or v 0) 32 number_signs)) (sym eq)
    (subst (λ s. IsPiece (choice_piece l (with_size p (Some i)) (with_size q (Some j)) (with_size o s)) (numbered v (unwrap_or v 0) 32 number_signs)) (sym eo)
    (subst (λ x. IsPiece (judged_piece l (Some (max j k)) x (choice_term p.term q.term o.term) (choice_signs q.signs o.signs)) (numbered v (unwrap_or v 0) 32 number_signs)) value
    (judged-number l (max j k) v (choice_term p.term q.term o.term) (choice_signs q.signs o.signs) (counted-whole (max j k) (counted-max j k (fq.sizes j eq) (fo.sizes k eo)) n)
    (λ n d. choice-within (max j k) p.whole q.whole o.whole n (sym value ∙ d))))))

pub choice-flag : (l : Look) (p q o : Piece) (a b c : Resolved) (x : FExpr) (i j k : ℕ) (s : Bool) (v : Option ℕ) (z : Signs) → IsPiece p a → IsFitPiece p → IsPiece q b → IsFitPiece q → IsPiece o c → IsFitPiece o
    → p.size ≡ Some i → q.size ≡ Some j → o.size ≡ Some k → max j k ≡ 1 → v ≡ form.choice_whole (max j k) p.whole q.whole o.whole
    → Makes x (Choose (expr_of a.expr) (expr_of b.expr) (expr_of c.expr)) (record { width = max (kept_of b.expr).width (kept_of c.expr).width; right = is_sized a.expr && (is_sized b.expr && is_sized c.expr) })
    → s ≡ ((a.is_sound && b.is_sound) && c.is_sound) → z ≡ choice_signs b.signs c.signs → IsPiece (choice_piece l p q o) (flagged x s v z)
choice-flag l p q o a b c x i j k s v z gp fp gq fq go_ fo ep eq eo n m mk es ez =
    let value = m ∙ choice-whole (max j k) p.whole q.whole o.whole in
    let constant : true ≡ ((a.is_constant && b.is_constant) && c.is_constant) =
    sym (ap₂ (λ y z. (y && z) && c.is_constant) (gp.is.constant ∙ fp.constant i ep) (gq.is.constant ∙ fq.constant j eq) ∙ go_.is.constant ∙ fo.constant k eo) in
    let shape = is-choice p.term q.term o.term a b c x _ s true (Some (record { whole = v })) z gp.is gq.is go_.is mk es constant in
    let width : (kept_of x).width ≡ max j k = ap (λ (y : Kept). y.width) mk.kept ∙ ap₂ max (gq.width j eq) (go_.width k eo) in
    subst (λ r. IsPiece (choice_piece l (with_size p r) q o) (flagged x s v z)) (sym ep)
    (subst (λ r. IsPiece (choice_piece l (with_size p (Some i)) (with_size q r) o) (flagged x s v z)) (sym eq)
    (subst (λ r. IsPiece (choice_piece l (with_size p (Some i)) (with_size q (Some j)) (with_size o r)) (flagged x s v z)) (sym eo)
    (subst (λ y. IsPiece (judged_piece l (Some (max j k)) y (choice_term p.term q.term o.term) (choice_signs q.signs o.signs)) (flagged x s v z)) value
    (judged-flag l (max j k) v (choice_term p.term q.term o.term) x s (choice_signs q.signs o.signs) z n shape width (ez ∙ ap₂ choice_signs gq.signs go_.signs)))))

pub choice-open : (l : Look) (p q o : Piece) (a b c : Resolved) (x : FExpr) (n : ℕ) (s e : Bool) (z : Signs) → IsPiece p a → IsPiece q b → IsPiece o c → both (λ i k. k) p.size (both (λ j k. k) q.size o.size) ≡ None
    → Makes x (Choose (expr_of a.expr) (expr_of b.expr) (expr_of c.expr)) (record { width = n; right = is_sized a.expr && (is_sized b.expr && is_sized c.expr) })
    → s ≡ ((a.is_sound && b.is_sound) && c.is_sound) → e ≡ ((a.is_constant && b.is_constant) && c.is_constant) → z ≡ choice_signs b.signs c.signs
    → IsPiece (choice_piece l p q o) (record { expr = x; is_sound = s; is_constant = e; count = None; signs = z })
choice-open l p q o a b c x n s e z gp gq go_ none mk es ee ez = go p.size q.size o.size none
  where
    r : Resolved
    r = record { expr = x; is_sound = s; is_constant = e; count = None; signs = z }

    form : IsRead (choice_term p.term q.term o.term) r
    form = is-choice p.term q.term o.term a b c x n s e None z gp.is gq.is go_.is mk es ee

    signs_are : z ≡ choice_signs q.signs o.signs
    signs_are = ez ∙ ap₂ choice_signs gq.signs go_.signs

    go : (i j k : Option ℕ) → both (λ i k. k) i (both (λ j k. k) j k) ≡ None → IsPiece (choice_piece l (with_size p i) (with_size q j) (with_size o k)) r
    go None None None d = open-piece l _ _ (choice_signs q.signs o.signs) r form refl signs_are
    go None None (Some k) d = open-piece l _ _ (choice_signs q.signs o.signs) r form refl signs_are
    go None (Some j) None d = open-piece l _ _ (choice_signs q.signs o.signs) r form refl signs_are
    go None (Some j) (Some k) d = open-piece l _ _ (choice_signs q.signs o.signs) r form refl signs_are
    go (Some i) None None d = open-piece l _ _ (choice_signs q.signs o.signs) r form refl signs_are
    go (Some i) None (Some k) d = open-piece l _ _ (choice_signs q.signs o.signs) r form refl signs_are
    go (Some i) (Some j) None d = open-piece l _ _ (choice_signs q.signs o.signs) r form refl signs_are
    go (Some i) (Some j) (Some k) d = none-some k (sym d)

-- ---- what is noted of operands that are all counted, and of others

pub both-none : (s r : Option ℕ) → (s ≡ None) ⊎ (r ≡ None) → both (λ j k. k) s r ≡ None
both-none s r (inl h) = ap (λ o. both (λ j k. k) o r) h ∙ go r
  where
    go : (r : Option ℕ) → both (λ (j : ℕ) (k : ℕ). k) None r ≡ None
    go None = refl
    go (Some k) = refl
both-none s r (inr h) = ap (λ o. both (λ j k. k) s o) h ∙ no-both (λ j k. k) s

pub all-none : (s r u : Option ℕ) → (s ≡ None) ⊎ ((r ≡ None) ⊎ (u ≡ None)) → both (λ i k. k) s (both (λ j k. k) r u) ≡ None
all-none s r u (inl h) = both-none s (both (λ j k. k) r u) (inl h)
all-none s r u (inr h) = both-none s (both (λ j k. k) r u) (inr (both-none r u h))

pub binary-quiet : (op : BinaryOp) (p q : Piece) (j k : ℕ) → p.size ≡ Some j → q.size ≡ Some k → [] ≡ binary_notes op p q
binary-quiet op p q j k e d = sym (ap₂ (λ s r. cond (is_some (both (λ m n. m) s r)) [] (pending p ++ pending q ++ breaks_if (is_whole_only op) 307 [] ++ breaks_if (orders_signed op p.signs q.signs) 307 [])) e d)

pub binary-loud : (op : BinaryOp) (p q : Piece) → both (λ j k. k) p.size q.size ≡ None
    → pending p ++ pending q ++ breaks_if (is_whole_only op) 307 [] ++ breaks_if (orders_signed op p.signs q.signs) 307 [] ≡ binary_notes op p q
binary-loud op p q h = go p.size q.size h
  where
    bs : List Broken
    bs = pending p ++ pending q ++ breaks_if (is_whole_only op) 307 [] ++ breaks_if (orders_signed op p.signs q.signs) 307 []

    go : (s r : Option ℕ) → both (λ j k. k) s r ≡ None → bs ≡ cond (is_some (both (λ m n. m) s r)) [] bs
    go None None d = refl
    go None (Some k) d = refl
    go (Some j) None d = refl
    go (Some j) (Some k) d = none-some k (sym d)

pub choice-quiet : (p q o : Piece) (i j k : ℕ) → p.size ≡ Some i → q.size ≡ Some j → o.size ≡ Some k → [] ≡ choice_notes p q o
choice-quiet p q o i j k e d h = sym (ap (λ s. cond (is_some (both (λ k m. k) s (both (λ m n. m) q.size o.size))) [] bs) e ∙ ap₂ (λ r u. cond (is_some (both (λ k m. k) (Some i) (both (λ m n. m) r u))) [] bs) d h)
  where
    bs : List Broken
    bs = pending p ++ pending q ++ pending o

pub choice-loud : (p q o : Piece) → both (λ i k. k) p.size (both (λ j k. k) q.size o.size) ≡ None → pending p ++ pending q ++ pending o ≡ choice_notes p q o
choice-loud p q o h = go p.size q.size o.size h
  where
    bs : List Broken
    bs = pending p ++ pending q ++ pending o

    go : (s r u : Option ℕ) → both (λ i k. k) s (both (λ j k. k) r u) ≡ None → bs ≡ cond (is_some (both (λ k m. k) s (both (λ m n. m) r u))) [] bs
    go None None None d = refl
    go None None (Some k) d = refl
    go None (Some j) None d = refl
    go None (Some j) (Some k) d = refl
    go (Some i) None None d = refl
    go (Some i) None (Some k) d = refl
    go (Some i) (Some j) None d = refl
    go (Some i) (Some j) (Some k) d = none-some k (sym d)
