-- What is got from a list, and what is put at its end.
use Rattle.std.proofs.Common.{◌≡◌, ◌∙◌, ◌↔◌, ◌⊎◌, inl, inr, sym, ap, subst, refl, arith, ℕ, zero, suc, ◌+◌, ◌<◌, ◌≤◌, Bool, true, false, cond, Option, Some, None, option_map, List, [], ◌∷◌, ◌++◌, length, get_or, take, drop, unwrap_or, slice_get, Contains, Bor, append_assoc, Result, Ok, Err}
use Rattle.std.specs.Result.{IfOk, is_ok, OnOk}
use Rattle.std.specs.Slice.{IsItemAt}
use Rattle.std.proofs.lemmas.List.{take_more}
use Rattle.std.proofs.lemmas.List.Elements.{Contains-append_left, Contains-push, Contains-push_cases}
use Rattle.std.proofs.lemmas.Option.{slice_get-get_or}
use Rattle.cdc_base.specs.declared.bit.Bit.{Bit}
use Rattle.cdc_model.specs.declared.scheme.Crossing.{Crossing}
use Rattle.fifo_ways.specs.Marked.{same_bit}
use Rattle.fifo_ways.proofs.Sames.{equal_bits, same_bit-is}
use Rattle.fifo_scheme.specs.declared.found.Column.{Column}
use Rattle.fifo_scheme.specs.declared.index.Reading.{Reading}
use Rattle.fifo_scheme.specs.Met.{bit_there, bits_at, crossings_at, crossings_into, crossings_there, IsOfEntries, kept_by}

absent : {A : Type 0} (xs : List A) (i : ℕ) → length xs ≤ i → slice_get xs i ≡ None
absent [] i l = refl
absent (x ∷ xs) zero l = absurd (omega arith)
absent (x ∷ xs) (suc i) l = absent xs i (omega arith)

-- what `get` gives
pub got : {A : Type 0} (xs : List A) (i : ℕ) (r : Option (Bor A)) → IsItemAt xs i r → option_map (λ (x : Bor A). x.now) r ≡ slice_get xs i
got xs i None h = sym (absent xs i h.3)
got xs i (Some x) h = sym (slice_get-get_or xs i x.now h.3.0 ∙ ap Some (sym h.1))

-- of a list that is another's copy
pub got_some : {A : Type 0} (xs ys : List A) → ys ≡ xs → (i : ℕ) (r : Option (Bor A)) (x : Bor A) → IsItemAt ys i r → r ≡ Some x → slice_get xs i ≡ Some x.now
got_some {A} xs ys same i r x h e = subst (λ (zs : List A). slice_get zs i ≡ Some x.now) same (sym (got ys i r h) ∙ ap (option_map (λ (y : Bor A). y.now)) e)

pub got_none : {A : Type 0} (xs ys : List A) → ys ≡ xs → (i : ℕ) (r : Option (Bor A)) → IsItemAt ys i r → r ≡ None → slice_get xs i ≡ None
got_none {A} xs ys same i r h e = subst (λ (zs : List A). slice_get zs i ≡ None) same (sym (got ys i r h) ∙ ap (option_map (λ (y : Bor A). y.now)) e)

pub none_of : {A : Type 0} (o : Option A) → ((x : A) → o ≡ Some x → ⊥) → o ≡ None
none_of None h = refl
none_of (Some x) h = absurd (h x refl)

module _ (rs : List Reading) (n : ℕ) (ns : List ℕ) where
  pub bit_put : (all old new : List Bit) (r : Reading) → all ≡ old ++ bits_at rs (n ∷ ns) → slice_get rs n ≡ Some r → new ≡ old ++ r.bit ∷ [] → all ≡ new ++ bits_at rs ns
  bit_put all old new r h e p = h ∙ ap (λ (o : Option Reading). old ++ bit_there o (bits_at rs ns)) e ∙ sym (append_assoc old (r.bit ∷ []) (bits_at rs ns)) ∙ ap (λ (bs : List Bit). bs ++ bits_at rs ns) (sym p)

  pub bit_left : (all old new : List Bit) → all ≡ old ++ bits_at rs (n ∷ ns) → slice_get rs n ≡ None → new ≡ old → all ≡ new ++ bits_at rs ns
  bit_left all old new h e p = h ∙ ap (λ (o : Option Reading). old ++ bit_there o (bits_at rs ns)) e ∙ ap (λ (bs : List Bit). bs ++ bits_at rs ns) (sym p)

  module _ (test : Bit → Bool) where
    pub crossings_put : (all old new : List Crossing) (r : Reading) → all ≡ old ++ crossings_at test rs (n ∷ ns) → slice_get rs n ≡ Some r → new ≡ old ++ crossings_into test r → all ≡ new ++ crossings_at test rs ns
    crossings_put all old new r h e p = h ∙ ap (λ (o : Option Reading). old ++ (crossings_there test o ++ crossings_at test rs ns)) e ∙ sym (append_assoc old (crossings_into test r) (crossings_at test rs ns))
        ∙ ap (λ (cs : List Crossing). cs ++ crossings_at test rs ns) (sym p)

    pub crossings_left : (all old new : List Crossing) → all ≡ old ++ crossings_at test rs (n ∷ ns) → slice_get rs n ≡ None → new ≡ old → all ≡ new ++ crossings_at test rs ns
    crossings_left all old new h e p = h ∙ ap (λ (o : Option Reading). old ++ (crossings_there test o ++ crossings_at test rs ns)) e ∙ ap (λ (cs : List Crossing). cs ++ crossings_at test rs ns) (sym p)

pub empty_of : {A : Type 0} (xs : List A) → length xs ≡ 0 → xs ≡ []
empty_of [] l = refl
empty_of (x ∷ xs) l = absurd (omega arith)

-- ---- sets

pub when_ok : {T E : Type 0} {P : Type 0} (r : Result T E) → is_ok r ≡ true → OnOk r P → P
when_ok (Ok x) e h = h
when_ok (Err x) e h = cc

pub both_ok : {T E : Type 0} {P Q R : T → Type 0} (r : Result T E) → ((x : T) → P x → Q x → R x) → IfOk r P → IfOk r Q → IfOk r R
both_ok (Ok x) f h k = f x h k
both_ok (Err x) f h k = tt

-- the bits that a set has, where one more of a list is added
pub bit_added : (bits : List Bit) (k : ℕ) (d : Bit) (start : Type 0) (old new : Bool) (b : Bit) → k < length bits → (old ≡ true) ↔ (start ⊎ Contains (take k bits) b) → new ≡ cond (same_bit (get_or bits k d) b) true old
    → (new ≡ true) ↔ (start ⊎ Contains (take (k + 1) bits) b)
bit_added bits k d start old new b l h e = subst (λ (v : Bool). (v ≡ true) ↔ (start ⊎ Contains (take (k + 1) bits) b)) (sym e)
    (subst (λ (bs : List Bit). (cond (same_bit (get_or bits k d) b) true old ≡ true) ↔ (start ⊎ Contains bs b)) (sym (take_more bits k d l)) (go (same_bit (get_or bits k d) b) refl))
  where
    go : (v : Bool) → same_bit (get_or bits k d) b ≡ v → (cond v true old ≡ true) ↔ (start ⊎ Contains (take k bits ++ get_or bits k d ∷ []) b)
    go true f = (
      λ t. inr (subst (Contains (take k bits ++ get_or bits k d ∷ [])) (same_bit-is (get_or bits k d) b f) (Contains-push (take k bits) (get_or bits k d))),
      λ t. refl,
    )
    go false f = (
      λ t. elim (h.0 t) [ inl s ↦ inl s | inr i ↦ inr (Contains-append_left (take k bits) (get_or bits k d ∷ []) b i) ],
      λ t. h.1 (elim t [
        | inl s ↦ inl s
        | inr i ↦ elim (Contains-push_cases (take k bits) (get_or bits k d) b i) [
          | inl j ↦ inr j
          | inr q ↦ absurd (let yes = equal_bits.refl (get_or bits k d) in let no = subst (λ (c : Bit). same_bit (get_or bits k d) c ≡ false) (sym q) f in let w : true ≡ false = sym yes ∙ no in cc)
        ]
      ]),
    )

-- the bits of one column more
pub column_added : (columns : List Column) (k : ℕ) (d : Column) (old new : Bool) (b : Bit) → k < length columns → (old ≡ true) ↔ IsOfEntries (take k columns) b → (new ≡ true) ↔ ((old ≡ true) ⊎ Contains (get_or columns k d).words b)
    → (new ≡ true) ↔ IsOfEntries (take (k + 1) columns) b
column_added columns k d old new b l h e = subst (λ (cs : List Column). (new ≡ true) ↔ IsOfEntries cs b) (sym (take_more columns k d l)) (
  λ t. elim (e.0 t) [
    | inl o ↦ (let c = h.0 o in (c.0, Contains-append_left (take k columns) (get_or columns k d ∷ []) c.0 c.1, c.2))
    | inr i ↦ (get_or columns k d, Contains-push (take k columns) (get_or columns k d), i)
  ],
  λ c. e.1 (elim (Contains-push_cases (take k columns) (get_or columns k d) c.0 c.1) [
    | inl i ↦ inl (h.1 (c.0, i, c.2))
    | inr q ↦ inr (subst (λ (x : Column). Contains x.words b) (sym q) c.2)
  ]),
)

-- ---- places that are kept by their answers

none_kept : (ns : List ℕ) → kept_by ns [] ≡ []
none_kept [] = refl
none_kept (n ∷ ns) = refl

pub kept_step : (ns : List ℕ) (bs : List Bool) (k d : ℕ) → k < length ns
    → kept_by (drop k ns) (drop k bs) ≡ cond (unwrap_or (slice_get bs k) false) (get_or ns k d ∷ kept_by (drop (k + 1) ns) (drop (k + 1) bs)) (kept_by (drop (k + 1) ns) (drop (k + 1) bs))
kept_step [] bs k d l = absurd (omega arith)
kept_step (n ∷ ns) [] zero d l = sym (none_kept ns)
kept_step (n ∷ ns) (true ∷ bs) zero d l = refl
kept_step (n ∷ ns) (false ∷ bs) zero d l = refl
kept_step (n ∷ ns) [] (suc k) d l =
    let e : suc k + 1 ≡ suc (k + 1) = omega arith in
    subst (λ (m : ℕ). kept_by (drop k ns) [] ≡ kept_by (drop m (n ∷ ns)) (drop m [])) (sym e) (none_kept (drop k ns) ∙ sym (none_kept (drop (k + 1) ns)))
kept_step (n ∷ ns) (b ∷ bs) (suc k) d l =
    let e : suc k + 1 ≡ suc (k + 1) = omega arith in
    subst (λ (m : ℕ). kept_by (drop k ns) (drop k bs) ≡ cond (unwrap_or (slice_get bs k) false) (get_or ns k d ∷ kept_by (drop m (n ∷ ns)) (drop m (b ∷ bs))) (kept_by (drop m (n ∷ ns)) (drop m (b ∷ bs)))) (sym e)
    (kept_step ns bs k d (omega arith))

pub kept_put : (ns : List ℕ) (bs : List Bool) (k d : ℕ) (all old new : List ℕ) → k < length ns → all ≡ old ++ kept_by (drop k ns) (drop k bs) → unwrap_or (slice_get bs k) false ≡ true → new ≡ old ++ get_or ns k d ∷ []
    → all ≡ new ++ kept_by (drop (k + 1) ns) (drop (k + 1) bs)
kept_put ns bs k d all old new l h e p =
    let rest = kept_by (drop (k + 1) ns) (drop (k + 1) bs) in
    h ∙ ap (λ (ms : List ℕ). old ++ ms) (kept_step ns bs k d l ∙ ap (λ (v : Bool). cond v (get_or ns k d ∷ rest) rest) e) ∙ sym (append_assoc old (get_or ns k d ∷ []) rest) ∙ ap (λ (ms : List ℕ). ms ++ rest) (sym p)

pub kept_left : (ns : List ℕ) (bs : List Bool) (k d : ℕ) (all old : List ℕ) → k < length ns → all ≡ old ++ kept_by (drop k ns) (drop k bs) → unwrap_or (slice_get bs k) false ≡ false
    → all ≡ old ++ kept_by (drop (k + 1) ns) (drop (k + 1) bs)
kept_left ns bs k d all old l h e =
    let rest = kept_by (drop (k + 1) ns) (drop (k + 1) bs) in
    h ∙ ap (λ (ms : List ℕ). old ++ ms) (kept_step ns bs k d l ∙ ap (λ (v : Bool). cond v (get_or ns k d ∷ rest) rest) e)
