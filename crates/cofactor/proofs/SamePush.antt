-- State bits that are added to a table.
use Rattle.std.proofs.Common.{◌≡◌, ◌∙◌, sym, ap, ap₂, subst, refl, arith, ℕ, zero, suc, ◌+◌, ◌<◌, Bool, true, false, nat_lt, List, [], ◌∷◌, ◌++◌, length, Option, Some, None, is_some, slice_get, unwrap_or, ltb-true, ltb-false}
use Rattle.std.specs.Option.{option_and_then}
use Rattle.std.specs.Prelude.{OnOk}
use Rattle.std.proofs.Common.{Result, Ok, Err}
use Rattle.cdc_base.specs.declared.bit.Bit.{Bit}
use Rattle.cell_graph.specs.declared.cell.CellId.{CellId}
use Rattle.cell_graph.specs.Cells.{Cells}
use Rattle.cell_graph.specs.Reading.{Cube}
use Rattle.cell_graph.specs.Tree.{bit_at, number}
use Rattle.cell_graph.specs.Unfolded.{tree_of}
use Rattle.cell_graph.specs.Cofactor.{same}
use Rattle.cell_graph.proofs.Words.{bit-number, bit-zero}
use Rattle.cofactor.specs.declared.table.Row.{Row}
use Rattle.cofactor.specs.Cubes.{bit}
use Rattle.cofactor.specs.Shown.{Shown, place_in, no_row, row_at, IsSame, ShowsMasks, ShowsSames, KeepBits}

-- what was told stays told where bits are added
pub told-more : (set : Bool) (there here o : Option Bit) → ((b : Bit) → there ≡ Some b → here ≡ Some b) → IsSame set there o → IsSame set here o
told-more set there here None f h = h
told-more set there here (Some b) f h = (h.0, f b h.1)

pub same-row : (old new : Shown) → new.cells ≡ old.cells → new.rows ≡ old.rows → (a : CellId) → row_at new a ≡ row_at old a
same-row old new e f a = ap₂ (λ cs rs. unwrap_or (option_and_then (slice_get rs) (place_in cs a)) no_row) e f

pub masks-stay : (g : Cells) (cube : Cube) (old new : Shown) (a : CellId) → row_at new a ≡ row_at old a → ShowsMasks g cube old a → ShowsMasks g cube new a
masks-stay g cube old new a e h = ap (λ (r : Row). r.masks) e ∙ h

pub sames-stay : (g : Cells) (cube : Cube) (old new : Shown) (a : CellId) → row_at new a ≡ row_at old a → KeepBits old.sames new.sames → ShowsSames g cube old a → ShowsSames g cube new a
sames-stay g cube old new a e keep h i lt =
    subst (λ (r : Row). IsSame (bit_at r.same i) (slice_get new.sames (r.start + i)) (same cube (tree_of g a) i)) (sym e)
    (told-more (bit_at (row_at old a).same i) (slice_get old.sames ((row_at old a).start + i)) (slice_get new.sames ((row_at old a).start + i)) (same cube (tree_of g a) i) (keep ((row_at old a).start + i)) (h i lt))

keep-push : (xs : List Bit) (y : Bit) → KeepBits xs (xs ++ y ∷ [])
keep-push [] y k b h = absurd (cc)
keep-push (x ∷ xs) y zero b h = h
keep-push (x ∷ xs) y (suc k) b h = keep-push xs y k b h

pub keep-more : (xs ys zs : List Bit) (y : Bit) → KeepBits xs ys → zs ≡ ys ++ y ∷ [] → KeepBits xs zs
keep-more xs ys zs y keep e k b h = ap (λ (l : List Bit). slice_get l k) e ∙ keep-push ys y k b (keep k b h)

pub keep-refl : (xs : List Bit) → KeepBits xs xs
keep-refl xs k b h = h

pub keep-trans : (xs ys zs : List Bit) → KeepBits xs ys → KeepBits ys zs → KeepBits xs zs
keep-trans xs ys zs f g k b h = g k b (f k b h)

get-last : (xs : List Bit) (y : Bit) (k : ℕ) → k ≡ length xs → slice_get (xs ++ y ∷ []) k ≡ Some y
get-last [] y k h = ap (slice_get (y ∷ [])) h
get-last (x ∷ xs) y zero h = absurd (omega arith)
get-last (x ∷ xs) y (suc k) h = get-last xs y k (omega arith)

pub length-more : (xs : List Bit) (y : Bit) → length (xs ++ y ∷ []) ≡ length xs + 1
length-more [] y = refl
length-more (x ∷ xs) y = let l = length-more xs y in omega arith

-- one more bit is there
pub there-more : (S : ℕ → Option Bit) (start at : ℕ) (ys zs : List Bit) → length ys ≡ start + at → zs ≡ ys ++ unwrap_or (S at) (bit 0 0) ∷ []
    → ((i : ℕ) → i < at → slice_get ys (start + i) ≡ Some (unwrap_or (S i) (bit 0 0))) → (i : ℕ) → i < at + 1 → slice_get zs (start + i) ≡ Some (unwrap_or (S i) (bit 0 0))
there-more S start at ys zs counted e each i lt = go (nat_lt i at) refl
  where
    go : (b : Bool) → nat_lt i at ≡ b → slice_get zs (start + i) ≡ Some (unwrap_or (S i) (bit 0 0))
    go true t = ap (λ (l : List Bit). slice_get l (start + i)) e ∙ keep-push ys (unwrap_or (S at) (bit 0 0)) (start + i) (unwrap_or (S i) (bit 0 0)) (each i (ltb-true i at t))
    go false t =
        let l = ltb-false i at t in
        let is : at ≡ i = omega arith in
        ap (λ (l : List Bit). slice_get l (start + i)) e ∙ get-last ys (unwrap_or (S at) (bit 0 0)) (start + i) (omega arith) ∙ ap (λ k. Some (unwrap_or (S k) (bit 0 0))) is

pub found-more : (S : ℕ → Option Bit) (at : ℕ) (n : ℕ) → n ≡ number (λ i. is_some (S i)) (suc at) → n ≡ number (λ i. is_some (S i)) (at + 1)
found-more S at n e = e ∙ ap (number (λ i. is_some (S i))) (let z : suc at ≡ at + 1 = omega arith in z)

-- the mask and the bits tell of each state bit
pub all-told : (S : ℕ → Option Bit) (w start found : ℕ) (zs : List Bit) → found ≡ number (λ i. is_some (S i)) w → ((i : ℕ) → i < w → slice_get zs (start + i) ≡ Some (unwrap_or (S i) (bit 0 0)))
    → (i : ℕ) → i < w → IsSame (bit_at found i) (slice_get zs (start + i)) (S i)
all-told S w start found zs e each i lt = go (S i) (ap (λ n. bit_at n i) e ∙ bit-number (λ i. is_some (S i)) w i lt) (each i lt)
  where
    go : (o : Option Bit) → bit_at found i ≡ is_some o → slice_get zs (start + i) ≡ Some (unwrap_or o (bit 0 0)) → IsSame (bit_at found i) (slice_get zs (start + i)) o
    go None h t = h
    go (Some b) h t = (h, t)

-- no mask tells of none
pub none-told : (o there : Option Bit) (i : ℕ) → o ≡ None → IsSame (bit_at 0 i) there o
none-told o there i e = subst (λ p. IsSame (bit_at 0 i) there p) (sym e) (bit-zero i)

pub both_ok : {T E : Type 0} {P Q R : Type 0} (r : Result T E) → (P → Q → R) → OnOk r P → OnOk r Q → OnOk r R
both_ok (Ok t) f p q = f p q
both_ok (Err e) f p q = tt

pub keep-to : (xs ys zs : List Bit) → KeepBits xs ys → zs ≡ ys → KeepBits xs zs
keep-to xs ys zs keep e k b h = ap (λ (l : List Bit). slice_get l k) e ∙ keep k b h
