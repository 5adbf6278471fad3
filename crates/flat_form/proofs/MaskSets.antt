-- The bits of a set, entry by entry, and sets that grow by some bits.
use Rattle.std.proofs.Common.{◌≡◌, ℕ, ◌-◌, ◌^◌, ◌<◌, Bool, true, false, cond, not, ◌&&◌, ◌||◌, ◌==◌, nat_eq, List, [], ◌∷◌, Contains, Some, bit_and, bit_or, refl, sym, subst, ap, ap₂, ◌∙◌, arith, eq-eqb, eqb-true, true≢false}
use Rattle.std.specs.Option.{unwrap_or, is_some}
use Rattle.std.specs.List.{IsDistinct, AllByRecursion}
use Rattle.std.specs.Map.{keys_of, lookup}
use Rattle.std.proofs.lemmas.List.Elements.{Contains-get_or, Contains-append_right}
use Rattle.std.proofs.Math.Bool.{or-false, or_assoc}
use Rattle.indexmap.specs.IndexMap.{get}
use Rattle.cell_graph.specs.Tree.{bit_at}
use Rattle.cell_graph.proofs.Words.{bit_and-bit, bit_or-bit, bit-zero, bit-not}
use Rattle.flat_meaning.specs.Deps.{Bits, none, union}
use Rattle.flat_form.specs.declared.masks.Masks.{Masks}
use Rattle.flat_form.specs.Masks.{mask_of, bits_in, has_signal, Adds, Lists}

-- what a test of equality tells
by_eq : (P : Bool → Type 0) (a b : ℕ) → (a ≡ b → P true) → (nat_eq a b ≡ false → P false) → P (nat_eq a b)
by_eq P a b yes' no' = go (nat_eq a b) refl
  where
    go : (t : Bool) → nat_eq a b ≡ t → P t
    go true e = yes' (eqb-true a b e)
    go false e = no' e

same_test : (a b : ℕ) → nat_eq a b ≡ nat_eq b a
same_test a b = by_eq (λ t. t ≡ nat_eq b a) a b (λ e. sym (eq-eqb b a (sym e))) (λ n. by_eq (λ t. false ≡ t) b a (λ e. absurd (true≢false (sym (eq-eqb a b (sym e)) ∙ n))) (λ _. refl))

-- the bits of one entry, and of some
abbrev pub entry_bits : ℕ × ℕ → Bits
entry_bits e s i = (s == e.0) && bit_at e.1 i

abbrev pub listed_bits : List (ℕ × ℕ) → Bits
listed_bits [] = none
listed_bits (e ∷ es) = union (entry_bits e) (listed_bits es)

other-key : (k s i : ℕ) (es : List (ℕ × ℕ)) → s ≡ k → AllByRecursion (λ y. nat_eq k y ≡ false) (keys_of es) → listed_bits es s i ≡ false
other-key k s i [] same h = refl
other-key k s i (e ∷ es) same h = ap₂ (λ a b. (a && bit_at e.1 i) || b) (ap (λ z. nat_eq z e.0) same ∙ h.0) (other-key k s i es same h.1)

pub listed-is : (es : List (ℕ × ℕ)) → IsDistinct nat_eq (keys_of es) → (s i : ℕ) → listed_bits es s i ≡ bit_at (unwrap_or (lookup (nat_eq s) es) 0) i
unfolding IsDistinct
listed-is [] d s i = sym (bit-zero i)
listed-is (e ∷ es) d s i = by_eq (λ t. ((t && bit_at e.1 i) || listed_bits es s i) ≡ bit_at (unwrap_or (cond t (Some e.1) (lookup (nat_eq s) es)) 0) i) s e.0
    (λ same. ap (λ b. bit_at e.1 i || b) (other-key e.0 s i es same d.0) ∙ or-false (bit_at e.1 i)) (λ _. listed-is es d.1 s i)

pub has-key : (es : List (ℕ × ℕ)) (s i : ℕ) → bit_at (unwrap_or (lookup (nat_eq s) es) 0) i ≡ true → Contains (keys_of es) s
has-key [] s i h = absurd (true≢false (sym h ∙ bit-zero i))
has-key (e ∷ es) s i h = by_eq (λ t. bit_at (unwrap_or (cond t (Some e.1) (lookup (nat_eq s) es)) 0) i ≡ true → Contains (keys_of (e ∷ es)) s) s e.0
    (λ same b. subst (Contains (keys_of (e ∷ es))) (sym same) (Contains-get_or (keys_of (e ∷ es)) 0 e.0 (omega arith)))
    (λ _ b. Contains-append_right (e.0 ∷ []) (keys_of es) s (has-key es s i b)) h

-- a mask that is put in place of a signal's
pub add-bits : (old new : Masks) (sig mask : ℕ) → ((q : ℕ) → get nat_eq new.by_signal q ≡ cond (nat_eq sig q) (Some (bit_or (mask_of old sig) mask)) (get nat_eq old.by_signal q))
    → Adds old new (entry_bits (sig, mask))
add-bits old new sig mask h s i l = ap (λ m. bit_at (unwrap_or m 0) i) (h s)
    ∙ ap (λ t. bit_at (unwrap_or (cond t (Some (bit_or (mask_of old sig) mask)) (get nat_eq old.by_signal s)) 0) i) (same_test sig s)
    ∙ by_eq (λ t. bit_at (unwrap_or (cond t (Some (bit_or (mask_of old sig) mask)) (get nat_eq old.by_signal s)) 0) i ≡ (bits_in old s i || (t && bit_at mask i))) s sig
    (λ same. bit_or-bit (mask_of old sig) mask i ∙ ap (λ z. bits_in old z i || bit_at mask i) (sym same))
    (λ _. sym (or-false (bits_in old s i)))

pub add-entry : (old new : Masks) (sig mask : ℕ) → ((q : ℕ) → get nat_eq new.by_signal q ≡ cond (nat_eq sig q) (Some (bit_or (mask_of old sig) mask)) (get nat_eq old.by_signal q))
    → Lists old new (λ s. s == sig)
add-entry old new sig mask h s = ap is_some (h s) ∙ ap (λ t. is_some (cond t (Some (bit_or (mask_of old sig) mask)) (get nat_eq old.by_signal s))) (same_test sig s) ∙ go (nat_eq s sig)
  where
    either : (b : Bool) → true ≡ (b || true)
    either true = refl
    either false = refl

    go : (t : Bool) → is_some (cond t (Some (bit_or (mask_of old sig) mask)) (get nat_eq old.by_signal s)) ≡ (has_signal old s || t)
    go true = either (has_signal old s)
    go false = sym (or-false (has_signal old s))

-- what a set has and what is still to be added, together, are what there was and what is added in all
abbrev pub Left : (old : Bits) (now : Masks) (rest whole : Bits) → Type 0
Left old now rest whole = (s i : ℕ) → i < 64 → union (bits_in now) rest s i ≡ union old whole s i

pub left-step : (old : Bits) (now next : Masks) (b rest whole : Bits) → Left old now (union b rest) whole → Adds now next b → Left old next rest whole
left-step old now next b rest whole h a s i l = ap (λ x. x || rest s i) (a s i l) ∙ or_assoc (bits_in now s i) (b s i) (rest s i) ∙ h s i l

pub left-end : (old now : Masks) (whole : Bits) → Left (bits_in old) now none whole → Adds old now whole
left-end old now whole h s i l = sym (or-false (bits_in now s i)) ∙ h s i l

pub left-same : (old : Bits) (now : Masks) (rest rest' whole : Bits) → ((s i : ℕ) → i < 64 → rest' s i ≡ rest s i) → Left old now rest whole → Left old now rest' whole
left-same old now rest rest' whole e h s i l = ap (λ x. bits_in now s i || x) (e s i l) ∙ h s i l

pub adds-same : (old now : Masks) (b b' : Bits) → ((s i : ℕ) → i < 64 → b s i ≡ b' s i) → Adds old now b → Adds old now b'
adds-same old now b b' e h s i l = h s i l ∙ ap (λ x. bits_in old s i || x) (e s i l)

pub adds-none : (m : Masks) → Adds m m none
adds-none m s i l = sym (or-false (bits_in m s i))

pub adds-two : (old now new : Masks) (a b : Bits) → Adds old now a → Adds now new b → Adds old new (union a b)
adds-two old now new a b h k s i l = k s i l ∙ ap (λ x. x || b s i) (h s i l) ∙ or_assoc (bits_in old s i) (a s i) (b s i)

-- the bits of b that g has too
abbrev pub kept_by : Bits → Bits → Bits
kept_by g b s i = b s i && g s i

split-kept : (g : Bits) (e : ℕ × ℕ) (es : List (ℕ × ℕ)) (s i : ℕ) → (kept_by g (entry_bits e) s i || kept_by g (listed_bits es) s i) ≡ kept_by g (listed_bits (e ∷ es)) s i
split-kept g e es s i = go (entry_bits e s i) (listed_bits es s i) (g s i)
  where
    go : (a r n : Bool) → ((a && n) || (r && n)) ≡ ((a || r) && n)
    go true true true = refl
    go true true false = refl
    go true false true = refl
    go true false false = refl
    go false r n = refl

pub kept-step : (g old : Bits) (now next : Masks) (e : ℕ × ℕ) (es : List (ℕ × ℕ)) (whole : Bits) → Left old now (kept_by g (listed_bits (e ∷ es))) whole → Adds now next (kept_by g (entry_bits e))
    → Left old next (kept_by g (listed_bits es)) whole
kept-step g old now next e es whole h a =
    left-step old now next (kept_by g (entry_bits e)) (kept_by g (listed_bits es)) whole
    (left-same old now (kept_by g (listed_bits (e ∷ es))) (union (kept_by g (entry_bits e)) (kept_by g (listed_bits es))) whole (λ s i l. split-kept g e es s i) h) a

-- one entry whose mask has the bits of its signal that g has
pub kept-entry : (g : Bits) (e : ℕ × ℕ) (mask : ℕ) → ((i : ℕ) → i < 64 → bit_at mask i ≡ (bit_at e.1 i && g e.0 i)) → (s i : ℕ) → i < 64 → entry_bits (e.0, mask) s i ≡ kept_by g (entry_bits e) s i
kept-entry g e mask h s i l = by_eq (λ t. (t && bit_at mask i) ≡ ((t && bit_at e.1 i) && g s i)) s e.0
    (λ same. h i l ∙ ap (λ z. bit_at e.1 i && g z i) (sym same)) (λ _. refl)

pub but-bits : (m b i : ℕ) → b < 2 ^ 64 → i < 64 → bit_at (bit_and m (2 ^ 64 - 1 - b)) i ≡ (bit_at m i && not (bit_at b i))
but-bits m b i h l = bit_and-bit m (2 ^ 64 - 1 - b) i ∙ ap (λ x. bit_at m i && x) (bit-not b i h l)

-- an entry none of whose bits are kept
pub kept-nothing : (g : Bits) (now : Masks) (e : ℕ × ℕ) (mask : ℕ) → mask ≡ 0 → ((i : ℕ) → i < 64 → bit_at mask i ≡ (bit_at e.1 i && g e.0 i)) → Adds now now (kept_by g (entry_bits e))
kept-nothing g now e mask zero h = adds-same now now none (kept_by g (entry_bits e))
    (λ s i l. sym (ap (λ z. (s == e.0) && bit_at z i) zero ∙ ap (λ b. (s == e.0) && b) (bit-zero i) ∙ and-false (s == e.0)) ∙ kept-entry g e mask h s i l) (adds-none now)
  where
    and-false : (b : Bool) → (b && false) ≡ false
    and-false true = refl
    and-false false = refl
