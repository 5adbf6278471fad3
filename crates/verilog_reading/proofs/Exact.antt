-- The reader of sources is exact: it gives the one source that the tokens read as, or their first refused token.
use Rattle.std.proofs.Common.{◌≡◌, ℕ, zero, suc, ◌+◌, ◌*◌, ◌≤◌, ◌<◌, Bool, true, false, List, [], ◌∷◌, ◌++◌, length, None, refl, sym, ap, subst, ◌∙◌, append_assoc, append-nil, arith, rules, length-append}
use Rattle.std.proofs.lemmas.List.{append_cancel_right}
use Rattle.verilog_lex.specs.declared.token.Token.{Token}
use Rattle.verilog_reading.specs.Lexemes.{Spot, closing, end_in}
use Rattle.verilog_reading.specs.Outcome.{Outcome, done, stop}
use Rattle.verilog_reading.specs.SourceTree.{ModuleTree, source_height}
use Rattle.verilog_reading.specs.ItemReading.{IsSource, is_source}
use Rattle.verilog_reading.specs.ItemReader.{read_source}
use Rattle.verilog_reading.specs.Laws.{Says, Within, Above, rest_of, with_rest, SameHead}
use Rattle.verilog_reading.specs.Refusals.{NoEnd, IsEnded, BeginsAny, Begins, IsFirstRefused, IsExact}
use Rattle.verilog_reading.proofs.NoEnds.{modules_end}
use Rattle.verilog_reading.proofs.ItemSays.{says_sources}
use Rattle.verilog_reading.proofs.ItemLocal.{local_sources}
use Rattle.verilog_reading.proofs.ItemComplete.{c_source}
use Rattle.verilog_reading.proofs.ItemAbove.{above_sources}

-- the one end
lone : (u v x y : List Token) (s t : Spot) → NoEnd u → NoEnd v → u ++ closing s ∷ x ≡ v ++ closing t ∷ y → (u ++ closing s ∷ [] ≡ v ++ closing t ∷ []) × (x ≡ y)
lone [] [] x y s t h i e = (search (rules, e), search (rules, e))
lone [] (w ∷ v) x y s t h i e = let z : closing s ≡ w = search (rules, e) in absurd (let q : end_in (closing s) ≡ None = subst (λ o. end_in o ≡ None) (sym z) i.0 in search (rules, q))
lone (w ∷ u) [] x y s t h i e = let z : w ≡ closing t = search (rules, e) in absurd (let q : end_in (closing t) ≡ None = subst (λ o. end_in o ≡ None) z h.0 in search (rules, q))
lone (w ∷ u) (o ∷ v) x y s t h i e = let z : w ≡ o = search (rules, e) in let r = lone u v x y s t h.1 i.1 (search (rules, e)) in (search (rules, z, r.0), r.1)

-- what a source that begins with tokens ended so is
whole_source : (ts more : List Token) (ms : List ModuleTree) → IsEnded ts → IsSource (ts ++ more) ms → (more ≡ []) × IsSource ts ms
whole_source ts more ms h s = go s refl
  where
    go : {w : List Token} {ns : List ModuleTree} → IsSource w ns → w ≡ ts ++ more → (more ≡ []) × IsSource ts ns
    go (is_source t {u} {ms = ns} p) e =
        let f : h.0 ++ closing h.1 ∷ more ≡ u ++ closing t ∷ [] = sym (e ∙ ap (λ x. x ++ more) h.2 ∙ append_assoc h.0 (closing h.1 ∷ []) more) in
        let l = lone h.0 u more [] h.1 t h.3 (modules_end p) f in
        (l.1, subst (λ x. IsSource x ns) (sym (h.2 ∙ l.0)) (is_source t p))

accepted_source : (ts used rest : List Token) (ms : List ModuleTree) → IsEnded ts → IsSource used ms → ts ≡ used ++ rest → (rest ≡ []) × IsSource ts ms
accepted_source ts used rest ms h s e0 = go s e0
  where
    go : {w : List Token} {ns : List ModuleTree} → IsSource w ns → ts ≡ w ++ rest → (rest ≡ []) × IsSource ts ns
    go (is_source t {u} {ms = ns} p) e =
        let l = lone h.0 u [] rest h.1 t h.3 (modules_end p) (sym h.2 ∙ e ∙ append_assoc u (closing t ∷ []) rest) in
        (sym l.1, subst (λ x. IsSource x ns) (sym (h.2 ∙ l.0)) (is_source t p))

-- of two fronts of one list, the longer goes on from the shorter
longer_front : (u v x y : List Token) (t : Token) → u ++ t ∷ x ≡ v ++ y → length y < suc (length x) → (w : List Token) × (v ≡ (u ++ t ∷ []) ++ w)
longer_front [] [] x y t e h = let l : suc (length x) ≡ length y = ap length e in absurd (omega (arith, l, h))
longer_front [] (s ∷ v) x y t e h = let z : s ≡ t = search (rules, e) in (v, ap (λ q. q ∷ v) z)
longer_front (s ∷ u) [] x y t e h = let l : suc (length (u ++ t ∷ x)) ≡ length y = ap length e in let m : length (u ++ t ∷ x) ≡ length u + suc (length x) = length-append u (t ∷ x) in absurd (omega (arith, l, m, h))
longer_front (s ∷ u) (q ∷ v) x y t e h = let z : s ≡ q = search (rules, e) in let r = longer_front u v x y t (search (rules, e)) h in (r.0, search (rules, z, r.1))

source_at : (ts : List Token) (ms : List ModuleTree) (k : ℕ) → IsSource ts ms → source_height ms ≤ k → read_source k ts ≡ done ms []
source_at ts ms k s h = subst (λ x. read_source k x ≡ done ms []) (append-nil ts) (c_source s k h [])

-- what is refused at some depth but for its depth is refused at greater ones
never_above : (ts rest : List Token) (k n : ℕ) → read_source k ts ≡ stop false rest → read_source (3 * n + k) ts ≡ stop false rest
never_above ts rest k zero e = subst (λ m. read_source m ts ≡ stop false rest) (omega arith) e
never_above ts rest k (suc n) e = subst (λ m. read_source m ts ≡ stop false rest) (omega arith)
    (subst (λ o. Above o (read_source (suc (suc (suc (3 * n + k)))) ts)) (never_above ts rest k n e) (above_sources (3 * n + k) ts))

abbrev DoneOnly : Outcome (List ModuleTree) → Type 0
DoneOnly (done a rest) = Unit {0}
DoneOnly (stop d rest) = ⊥

no_done : (o : Outcome (List ModuleTree)) (d : Bool) (rest : List Token) (ms : List ModuleTree) (last : List Token) → o ≡ stop d rest → o ≡ done ms last → ⊥
no_done o d rest ms last e f = subst DoneOnly (sym f ∙ e) tt

module _ (k : ℕ) (ts : List Token) (d : Bool) (t : Token) (rest before : List Token) (e : read_source k ts ≡ stop d (t ∷ rest)) (w : ts ≡ before ++ t ∷ rest) where
  -- whatever follows, that token is refused there
  stays : (n : ℕ) (more : List Token) → read_source n ts ≡ stop d (t ∷ rest) → read_source n (before ++ t ∷ more) ≡ stop d (t ∷ more)
  stays n more f =
      let l = local_sources n ts in
      let g : rest_of (read_source n ts) ≡ t ∷ rest = ap rest_of f in
      let b : before ≡ l.0 = append_cancel_right before l.0 (t ∷ rest) (sym w ∙ l.1 ∙ ap (λ x. l.0 ++ x) g) in
      let s : SameHead (rest_of (read_source n ts)) (t ∷ more) = subst (λ x. SameHead x (t ∷ more)) (sym g) (more, refl) in
      ap (λ x. read_source n (x ++ t ∷ more)) b ∙ l.2 (t ∷ more) s ∙ ap (with_rest (t ∷ more)) f

  not_within : (n : ℕ) → read_source n ts ≡ stop d (t ∷ rest) → Begins n (before ++ t ∷ []) → ⊥
  not_within n f (more, ms, s, h) =
      let z : read_source n (before ++ t ∷ more) ≡ done ms [] = subst (λ x. read_source n x ≡ done ms []) (append_assoc before (t ∷ []) more) (source_at ((before ++ t ∷ []) ++ more) ms n s h) in
      no_done (read_source n (before ++ t ∷ more)) d (t ∷ more) ms [] (stays n more f) z

  not_ever : d ≡ false → BeginsAny (before ++ t ∷ []) → ⊥
  not_ever q (more, ms, s) = let n = source_height ms in
      not_within (3 * n + k) (subst (λ x. read_source (3 * n + k) ts ≡ stop x (t ∷ rest)) (sym q) (never_above ts (t ∷ rest) k n (subst (λ x. read_source k ts ≡ stop x (t ∷ rest)) q e)))
      (more, ms, s, omega arith)

  goes_deeper : d ≡ true → BeginsAny (before ++ t ∷ [])
  goes_deeper q = let n = suc (suc (suc k)) in go (read_source n ts) (says_sources n ts) (subst (λ o. Above o (read_source n ts)) (subst (λ x. read_source k ts ≡ stop x (t ∷ rest)) q e) (above_sources k ts))
    where
      go : (o : Outcome (List ModuleTree)) → Says (Within IsSource source_height (suc (suc (suc k)))) ts o → length (rest_of o) < length (t ∷ rest) → BeginsAny (before ++ t ∷ [])
      go (done ms last) s h = let f = longer_front before s.0 rest last t (sym w ∙ s.1) h in (f.0, ms, subst (λ x. IsSource x ms) f.1 s.2.0)
      go (stop c last) s h = let f = longer_front before s.0 rest last t (sym w ∙ s.1) h in
          (f.0 ++ s.2, s.3, subst (λ x. IsSource x s.3) (ap (λ x. x ++ s.2) f.1 ∙ append_assoc (before ++ t ∷ []) f.0 s.2) s.4.0)

refused_at : (k : ℕ) (ts : List Token) → IsEnded ts → (d : Bool) (rest : List Token) → read_source k ts ≡ stop d rest
    → (before : List Token) × (t : Token) × (more : List Token) × (rest ≡ t ∷ more) × (ts ≡ before ++ t ∷ more) × IsFirstRefused k d before t
refused_at k ts h d [] e =
    let s = subst (Says (Within IsSource source_height k) ts) e (says_sources k ts) in
    let q : ts ≡ s.0 = s.1 ∙ append-nil s.0 in
    let z = whole_source ts s.2 s.3 h (subst (λ x. IsSource (x ++ s.2) s.3) (sym q) s.4.0) in
    absurd (no_done (read_source k ts) d [] s.3 [] e (source_at ts s.3 k z.1 s.4.1))
refused_at k ts h d (t ∷ rest) e =
    let s = subst (Says (Within IsSource source_height k) ts) e (says_sources k ts) in
    (s.0, t, rest, refl, s.1, record { first = (s.2, s.3, s.4.0, s.4.1); here = not_within k ts d t rest s.0 e s.1 k e; deeper = goes_deeper k ts d t rest s.0 e s.1; never = not_ever k ts d t rest s.0 e s.1 })

pub exact : (k : ℕ) (ts : List Token) → IsEnded ts → IsExact k ts
exact k ts h = record {
  accepted = λ ms rest e. let s = subst (Says (Within IsSource source_height k) ts) e (says_sources k ts) in let z = accepted_source ts s.0 rest ms h s.2.0 s.1 in (z.0, z.1, s.2.1);
  every = λ ms s i. source_at ts ms k s i;
  refused = refused_at k ts h;
}
