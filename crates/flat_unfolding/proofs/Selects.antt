-- Constant selects lie in what they select from, and a variable index names no bit that isn't there.
use Rattle.std.proofs.Common.{◌≡◌, ℕ, ◌+◌, ◌-◌, ◌^◌, ◌<◌, ◌≤◌, Bool, true, false, cond, ◌&&◌, ◌==◌, nat_lt, nat_le, List, Option, Some, None, refl, sym, ap, subst, ◌∙◌, arith, rules, ltb-false, leb-true}
use Rattle.std.specs.Prelude.{slice_get}
use Rattle.std.proofs.lemmas.Bool.{and_parts}
use Rattle.verilog_ast.specs.declared.PartKind.{PartKind}
use Rattle.verilog_ast.specs.declared.PartKind.TheVariants as k
use Rattle.flat_unfolding.specs.Names.{Range, span, width_of, offset, Entry, width_at, range_at}
use Rattle.flat_unfolding.specs.Expressions.{Select, one_bit, bit_select, bits_between, part_select, indices_select, kind_select, may_index}
use Rattle.flat_unfolding.proofs.Steps.{some_is}

abbrev pub IsInside : ℕ → Select → Type 0
IsInside n s = (1 ≤ s.bits) × (s.at + s.bits ≤ n)

-- a range, if there is one, has n indices
abbrev pub Spans : Option Range → ℕ → Type 0
Spans r n = (q : Range) → r ≡ Some q → span q ≡ n

pub spans_own : (r : Option Range) → Spans r (width_of r)
spans_own r q e = ap width_of (sym e)

pub spans_at : (es : List Entry) (s : ℕ) → Spans (range_at es s) (width_at es s)
spans_at es s q = go (slice_get es s) refl
  where
    go : (o : Option Entry) → slice_get es s ≡ o → range_at es s ≡ Some q → span q ≡ width_at es s
    go None e h = absurd (search (rules, h, e))
    go (Some x) e h =
        let k : x.range ≡ Some q = (rw e at h) in
        let w : width_at es s ≡ width_of x.range = (rw e refl) in
        sym (w ∙ ap width_of k)

offset_below : (i : ℕ) (r : Range) (at : ℕ) → offset i r ≡ Some at → at < span r
offset_below i r at e = go (nat_lt r.left r.right) (nat_le r.left i && nat_le i r.right) (nat_le r.right i && nat_le i r.left) refl refl refl e
  where
    go : (a b c : Bool) → nat_lt r.left r.right ≡ a → (nat_le r.left i && nat_le i r.right) ≡ b → (nat_le r.right i && nat_le i r.left) ≡ c
        → cond a (cond b (Some (r.right - i)) None) (cond c (Some (i - r.right)) None) ≡ Some at → at < span r
    go true true c h k l e =
        let s = some_is (r.right - i) at e in let p = and_parts (nat_le r.left i) (nat_le i r.right) k in
        let m = leb-true r.left i p.0 in let n = leb-true i r.right p.1 in omega arith
    go true false c h k l e = absurd (search (rules, e))
    go false b true h k l e =
        let s = some_is (i - r.right) at e in let p = and_parts (nat_le r.right i) (nat_le i r.left) l in
        let m = leb-true r.right i p.0 in let n = leb-true i r.left p.1 in omega arith
    go false b false h k l e = absurd (search (rules, e))

pub bit_inside : (r : Option Range) (n i : ℕ) (s : Select) → Spans r n → bit_select r i ≡ Some s → IsInside n s
bit_inside None n i s h e = absurd (search (rules, e))
bit_inside (Some q) n i s h e = go (offset i q) refl e
  where
    go : (o : Option ℕ) → offset i q ≡ o → one_bit o ≡ Some s → IsInside n s
    go None k e = absurd (search (rules, e))
    go (Some at) k e =
        let l = offset_below i q at k in let m = h q refl in
        subst (IsInside n) (some_is _ s e) ((let a : 1 ≤ 1 = omega arith in a), (let b : at + 1 ≤ n = omega arith in b))

pub part_inside : (r : Option Range) (n : ℕ) (p : Range) (s : Select) → Spans r n → part_select r p ≡ Some s → IsInside n s
part_inside None n p s h e = absurd (search (rules, e))
part_inside (Some q) n p s h e = go (offset p.left q) (offset p.right q) refl e
  where
    either : (high low : ℕ) (b : Bool) → nat_lt high low ≡ b → high < n → cond b None (Some (record { at = low; bits = high - low + 1 })) ≡ Some s → IsInside n s
    either high low true k l e = absurd (search (rules, e))
    either high low false k l e =
        let m = ltb-false high low k in
        subst (IsInside n) (some_is _ s e) ((let a : 1 ≤ high - low + 1 = omega arith in a), (let b : low + (high - low + 1) ≤ n = omega arith in b))

    go : (a b : Option ℕ) → offset p.left q ≡ a → bits_between a b ≡ Some s → IsInside n s
    go None b k e = absurd (search (rules, e))
    go (Some high) None k e = absurd (search (rules, e))
    go (Some high) (Some low) k e = let l = offset_below p.left q high k in let m = h q refl in either high low (nat_lt high low) refl (omega arith) e

pub kind_inside : (r : Option Range) (n : ℕ) (kind : PartKind) (p : Range) (s : Select) → Spans r n → kind_select r kind p ≡ Some s → IsInside n s
kind_inside r n k.Range p s h e = part_inside r n p s h e
kind_inside r n k.Up p s h e = part_inside r n _ s h e
kind_inside r n k.Down p s h e = go (nat_lt p.left (p.right - 1)) e
  where
    go : (b : Bool) → cond b None (indices_select r (p.left - (p.right - 1)) p.left) ≡ Some s → IsInside n s
    go true e = absurd (search (rules, e))
    go false e = part_inside r n _ s h e

pub index_inside : (r : Option Range) (n k : ℕ) → Spans r n → may_index r k ≡ true → 2 ^ k ≤ n
index_inside None n k h e = absurd (search (rules, e))
index_inside (Some q) n k h e =
    let p = and_parts (q.right == 0) (nat_le (2 ^ k) (span q)) e in subst (λ m. 2 ^ k ≤ m) (h q refl) (leb-true (2 ^ k) (span q) p.1)
