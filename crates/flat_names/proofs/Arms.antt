-- Notes of an operator's parts, at once and pending, are those of the whole in textual order.
use Rattle.std.proofs.Common.{◌≡◌, ℕ, Bool, true, false, cond, ◌&&◌, List, [], ◌++◌, Option, Some, None, is_some, refl, sym, ap, ap₂, subst, ◌∙◌}
use Rattle.verilog_ast.specs.declared.UnaryOp.{UnaryOp}
use Rattle.verilog_ast.specs.declared.BinaryOp.{BinaryOp}
use Rattle.flat_unfolding.specs.Outcome.{Broken, breaks_if}
use Rattle.flat_unfolding.specs.Names.{Look}
use Rattle.flat_unfolding.specs.Expressions.{is_whole_only}
use Rattle.flat_names.specs.Noting.{Noted, all_noted}
use Rattle.flat_names.specs.Signs.{orders_signed}
use Rattle.flat_names.specs.Pieces.{EachIs, Piece, IsFitPiece, out_of_range, pending, at_once, unary_piece, binary_piece, choice_piece, binary_notes, choice_notes}
use Rattle.flat_names.proofs.Notes.{IsOne, noted-both, noted-late}
use Rattle.flat_names.proofs.Terms.{with_size}

-- a piece's notes are all of E307 where they are pending, and one rule is told in one way
late : (p : Piece) → IsFitPiece p → EachIs (λ b. b ≡ out_of_range) (pending p)
late p h = go p.size refl
  where
    go : (s : Option ℕ) → p.size ≡ s → EachIs (λ b. b ≡ out_of_range) (cond (is_some s) p.term.broken [])
    go None e = tt
    go (Some k) e = h.bounds k e

soon : (p : Piece) → IsFitPiece p → EachIs IsOne (at_once p)
soon p h = go (is_some p.size)
  where
    go : (b : Bool) → EachIs IsOne (cond b [] p.term.broken)
    go true = tt
    go false = h.one

pub settled-notes : (f : Noted) (p : Piece) → all_noted (all_noted f (at_once p)) (pending p) ≡ all_noted f p.term.broken
settled-notes f p = go (is_some p.size)
  where
    go : (b : Bool) → all_noted (all_noted f (cond b [] p.term.broken)) (cond b p.term.broken []) ≡ all_noted f p.term.broken
    go true = refl
    go false = refl

pub unary-notes : (l : Look) (op : UnaryOp) (p : Piece) → at_once (unary_piece l op p) ≡ at_once p
unary-notes l op p = go p.size
  where
    go : (s : Option ℕ) → at_once (unary_piece l op (with_size p s)) ≡ at_once (with_size p s)
    go None = refl
    go (Some k) = refl

-- two parts, in order
pub two-notes : (f : Noted) (p q : Piece) → IsFitPiece p → IsFitPiece q
    → all_noted (all_noted (all_noted f (at_once p)) (at_once q)) (pending p ++ pending q) ≡ all_noted f (p.term.broken ++ q.term.broken)
two-notes f p q h i =
    noted-both (all_noted (all_noted f (at_once p)) (at_once q)) (pending p) (pending q)
    ∙ ap (λ g. all_noted g (pending q)) (noted-late (all_noted f (at_once p)) (pending p) (at_once q) (late p h) (soon q i))
    ∙ ap (λ g. all_noted (all_noted g (at_once q)) (pending q)) (settled-notes f p)
    ∙ settled-notes (all_noted f p.term.broken) q ∙ sym (noted-both f p.term.broken q.term.broken)

pub binary-notes-are : (l : Look) (op : BinaryOp) (f : Noted) (p q : Piece) → IsFitPiece p → IsFitPiece q
    → all_noted (all_noted (all_noted f (at_once p)) (at_once q)) (binary_notes op p q) ≡ all_noted f (at_once (binary_piece l op p q))
binary-notes-are l op f p q h i = go p.size q.size refl refl
  where
    wo : List Broken
    wo = breaks_if (is_whole_only op) 307 []

    orders : Bool
    orders = orders_signed op p.signs q.signs

    and-true : (b : Bool) → b ≡ (b && true)
    and-true true = refl
    and-true false = refl

    start : Noted
    start = all_noted (all_noted f (at_once p)) (at_once q)

    open_ : all_noted start (pending p ++ pending q ++ wo ++ breaks_if orders 307 []) ≡ all_noted f (p.term.broken ++ q.term.broken ++ wo ++ breaks_if (orders && true) 307 [])
    open_ = noted-both start (pending p ++ pending q ++ wo) (breaks_if orders 307 [])
        ∙ ap₂ (λ g b. all_noted g (breaks_if b 307 [])) (noted-both start (pending p ++ pending q) wo ∙ ap (λ g. all_noted g wo) (two-notes f p q h i) ∙ sym (noted-both f (p.term.broken ++ q.term.broken) wo)) (and-true orders)
        ∙ sym (noted-both f (p.term.broken ++ q.term.broken ++ wo) (breaks_if (orders && true) 307 []))

    Open : (s r : Option ℕ) → Type 0
    Open s r = all_noted (all_noted (all_noted f (at_once (with_size p s))) (at_once (with_size q r))) (pending (with_size p s) ++ pending (with_size q r) ++ wo ++ breaks_if orders 307 [])
        ≡ all_noted f (p.term.broken ++ q.term.broken ++ wo ++ breaks_if (orders && true) 307 [])

    Goal : (s r : Option ℕ) → Type 0
    Goal s r = all_noted (all_noted (all_noted f (at_once (with_size p s))) (at_once (with_size q r))) (binary_notes op (with_size p s) (with_size q r))
        ≡ all_noted f (at_once (binary_piece l op (with_size p s) (with_size q r)))

    from : (s r : Option ℕ) → p.size ≡ s → q.size ≡ r → Open s r
    from s r e d = subst (λ s. Open s r) e (subst (Open p.size) d open_)

    go : (s r : Option ℕ) → p.size ≡ s → q.size ≡ r → Goal s r
    go None None e d = from None None e d
    go None (Some k) e d = from None (Some k) e d
    go (Some j) None e d = from (Some j) None e d
    go (Some j) (Some k) e d = refl

pub choice-notes-are : (l : Look) (f : Noted) (p q o : Piece) → IsFitPiece p → IsFitPiece q → IsFitPiece o
    → all_noted (all_noted (all_noted (all_noted f (at_once p)) (at_once q)) (at_once o)) (choice_notes p q o) ≡ all_noted f (at_once (choice_piece l p q o))
choice-notes-are l f p q o h i j = go p.size q.size o.size refl refl refl
  where
    open_ : all_noted (all_noted (all_noted (all_noted f (at_once p)) (at_once q)) (at_once o)) (pending p ++ pending q ++ pending o) ≡ all_noted f (p.term.broken ++ q.term.broken ++ o.term.broken)
    open_ =
        noted-both (all_noted (all_noted (all_noted f (at_once p)) (at_once q)) (at_once o)) (pending p ++ pending q) (pending o)
        ∙ ap (λ g. all_noted g (pending o)) (noted-both (all_noted (all_noted (all_noted f (at_once p)) (at_once q)) (at_once o)) (pending p) (pending q)
        ∙ ap (λ g. all_noted g (pending q)) (noted-late (all_noted (all_noted f (at_once p)) (at_once q)) (pending p) (at_once o) (late p h) (soon o j))
        ∙ noted-late (all_noted (all_noted (all_noted f (at_once p)) (at_once q)) (pending p)) (pending q) (at_once o) (late q i) (soon o j)
        ∙ ap (λ g. all_noted g (at_once o)) (sym (noted-both (all_noted (all_noted f (at_once p)) (at_once q)) (pending p) (pending q)) ∙ two-notes f p q h i))
        ∙ settled-notes (all_noted f (p.term.broken ++ q.term.broken)) o
        ∙ sym (noted-both f (p.term.broken ++ q.term.broken) o.term.broken)

    Open : Piece → Piece → Piece → Type 0
    Open p q o = all_noted (all_noted (all_noted (all_noted f (at_once p)) (at_once q)) (at_once o)) (pending p ++ pending q ++ pending o) ≡ all_noted f (p.term.broken ++ q.term.broken ++ o.term.broken)

    from : (s r u : Option ℕ) → p.size ≡ s → q.size ≡ r → o.size ≡ u → Open (with_size p s) (with_size q r) (with_size o u)
    from s r u e d c = subst (λ s. Open (with_size p s) (with_size q r) (with_size o u)) e (subst (λ r. Open p (with_size q r) (with_size o u)) d (subst (λ u. Open p q (with_size o u)) c open_))

    go : (s r u : Option ℕ) → p.size ≡ s → q.size ≡ r → o.size ≡ u
        → all_noted (all_noted (all_noted (all_noted f (at_once (with_size p s))) (at_once (with_size q r))) (at_once (with_size o u))) (choice_notes (with_size p s) (with_size q r) (with_size o u))
        ≡ all_noted f (at_once (choice_piece l (with_size p s) (with_size q r) (with_size o u)))
    go None None None e d c = from None None None e d c
    go None None (Some k) e d c = from None None (Some k) e d c
    go None (Some j) None e d c = from None (Some j) None e d c
    go None (Some j) (Some k) e d c = from None (Some j) (Some k) e d c
    go (Some i) None None e d c = from (Some i) None None e d c
    go (Some i) None (Some k) e d c = from (Some i) None (Some k) e d c
    go (Some i) (Some j) None e d c = from (Some i) (Some j) None e d c
    go (Some i) (Some j) (Some k) e d c = refl
