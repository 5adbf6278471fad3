-- Declared signals within the limits, and that nothing but a declaration adds one.
use Rattle.std.proofs.Common.{◌≡◌, ℕ, zero, suc, ◌+◌, ◌≤◌, false, nat_lt, List, [], ◌∷◌, ◌++◌, length, map, ◌∙◌, Option, Some, None, refl, sym, ap, ◌∙◌, subst, arith, ltb-false}
use Rattle.flat_unfolding.specs.Outcome.{Text, breaks_if, good, refused_if}
use Rattle.flat_unfolding.specs.Names.{Range, span, width_of, Look, Entry, width_at, Names}
use Rattle.flat_unfolding.specs.Parameters.{is_wide, bounds_read, range_read}
use Rattle.verilog_reading.specs.SourceTree.{Bounds}
use Rattle.flat_unfolding.specs.Declarations.{added}
use Rattle.flat_unfolding.specs.Design.{Stage, change_entry, change_from}
use Rattle.flat_unfolding.specs.Laws.{Kept, kept, StandsBehind}
use Rattle.flat_unfolding.proofs.Steps.{good_is, good_then, not_refused, not_broken, none_of_both}

-- every signal has 64 bits at most, and there are 1,048,576 at most
pub record Fine (es : List Entry) : Type 0 where
  pub narrow : (s : ℕ) → width_at es s ≤ 64
  pub few : length es ≤ 1048576

-- a change that keeps what is kept of each signal
abbrev pub KeepsEntry : (Entry → Entry) → Type 0
KeepsEntry f = (e : Entry) → kept (f e) ≡ kept e

same_kept : (f : Entry → Entry) → KeepsEntry f → (t : ℕ) (es : List Entry) → map kept (change_entry f t es) ≡ map kept es
same_kept f h t [] = refl
same_kept f h zero (e ∷ es) = ap (λ k. k ∷ map kept es) (h e)
same_kept f h (suc t) (e ∷ es) = ap (λ ks. kept e ∷ ks) (same_kept f h t es)

kept_of_both : (es fs : List Entry) → map kept (es ++ fs) ≡ map kept es ++ map kept fs
kept_of_both [] fs = refl
kept_of_both (e ∷ es) fs = ap (λ ks. kept e ∷ ks) (kept_of_both es fs)

in_a_row : (xs ys zs : List Kept) → (xs ++ ys) ++ zs ≡ xs ++ (ys ++ zs)
in_a_row [] ys zs = refl
in_a_row (x ∷ xs) ys zs = ap (λ ks. x ∷ ks) (in_a_row xs ys zs)

pub stands_itself : (es : List Entry) → StandsBehind es es
stands_itself es = ([], go (map kept es))
  where
    go : (ks : List Kept) → ks ≡ ks ++ []
    go [] = refl
    go (k ∷ ks) = ap (λ ls. k ∷ ls) (go ks)

-- what a change of one entry keeps, a change of many keeps
pub from_keeps : (P : List Entry → Type 0) (f : Entry → Entry) → ((n : ℕ) (es : List Entry) → P es → P (change_entry f n es))
    → (s more : ℕ) (es : List Entry) → P es → P (change_from f s more es)
from_keeps P f h s zero es p = p
from_keeps P f h s (suc more) es p = from_keeps P f h (suc s) more (change_entry f s es) (h s es p)

-- a change of the reset that a signal resolves to, and of nothing else
abbrev pub OnlyResets : (Entry → Entry) → Type 0
OnlyResets f = (e : Entry) → f e ≡ record e { reset = (f e).reset }

pub none_are_fine : Fine []
none_are_fine = record { narrow = λ s. let h : 0 ≤ 64 = omega arith in h; few = let h : 0 ≤ 1048576 = omega arith in h }

-- ---- a change that keeps ranges

pub same_width : (f : Entry → Entry) → ((e : Entry) → (f e).range ≡ e.range) → (t : ℕ) (es : List Entry) (s : ℕ) → width_at (change_entry f t es) s ≡ width_at es s
same_width f h t [] s = refl
same_width f h zero (e ∷ es) zero = ap width_of (h e)
same_width f h zero (e ∷ es) (suc s) = refl
same_width f h (suc t) (e ∷ es) zero = refl
same_width f h (suc t) (e ∷ es) (suc s) = same_width f h t es s

pub same_length : (f : Entry → Entry) (t : ℕ) (es : List Entry) → length (change_entry f t es) ≡ length es
same_length f t [] = refl
same_length f zero (e ∷ es) = refl
same_length f (suc t) (e ∷ es) = ap suc (same_length f t es)

pub change_keeps : (f : Entry → Entry) → ((e : Entry) → (f e).range ≡ e.range) → (t : ℕ) (es : List Entry) → Fine es → Fine (change_entry f t es)
change_keeps f h t es p = record {
  narrow = λ s. subst (λ w. w ≤ 64) (sym (same_width f h t es s)) (p.narrow s);
  few = subst (λ n. n ≤ 1048576) (sym (same_length f t es)) p.few;
}

-- ---- further entries

pub narrow_behind : (es fs : List Entry) → ((s : ℕ) → width_at es s ≤ 64) → ((s : ℕ) → width_at fs s ≤ 64) → (s : ℕ) → width_at (es ++ fs) s ≤ 64
narrow_behind [] fs h k s = k s
narrow_behind (e ∷ es) fs h k zero = h zero
narrow_behind (e ∷ es) fs h k (suc s) = narrow_behind es fs (λ t. h (suc t)) k s

pub length_of_both : {A : Type 0} (xs ys : List A) → length (xs ++ ys) ≡ length xs + length ys
length_of_both [] ys = let h : length ys ≡ 0 + length ys = omega arith in h
length_of_both (x ∷ xs) ys = let h = length_of_both xs ys in omega arith

pub added_keeps : (s : Stage) (fs : List Entry) (names : Names) (t : Stage) → added s fs names ≡ good t → ((n : ℕ) → width_at fs n ≤ 64)
    → Fine s.design.entries → Fine t.design.entries
added_keeps s fs names t e h p =
    let es = s.design.entries in
    let g = good_then (refused_if (nat_lt 1048576 (length es + length fs)) 601 None []) _ t e in
    let m = ltb-false 1048576 (length es + length fs) (not_refused _ 601 None [] g.0 g.1) in
    let n = length_of_both es fs in
    subst (λ (u : Stage). Fine u.design.entries) (good_is _ t g.2) (record { narrow = narrow_behind es fs p.narrow h; few = omega arith })

-- ---- the entries of a declaration

not_wide : (r : Option Range) → is_wide r ≡ false → width_of r ≤ 64
not_wide None e = let h : 1 ≤ 64 = omega arith in h
not_wide (Some r) e = ltb-false 64 (span r) e

pub range_narrow : (look : Look) (x : Text) (b : Option Bounds) → (range_read look x b).broken ≡ [] → width_of (range_read look x b).range ≤ 64
range_narrow look x None e = not_wide None refl
range_narrow look x (Some b) e = let a = bounds_read look b in
    not_wide a.range (not_broken (is_wide a.range) 308 x (none_of_both a.broken (breaks_if (is_wide a.range) 308 x) e).1)

pub narrow_entries : (f : Text → Entry) (n : ℕ) → n ≤ 64 → ((x : Text) → width_of (f x).range ≡ n) → (xs : List Text) (s : ℕ) → width_at (map f xs) s ≤ 64
narrow_entries f n l h [] s = let k : 0 ≤ 64 = omega arith in k
narrow_entries f n l h (x ∷ xs) zero = subst (λ w. w ≤ 64) (sym (h x)) l
narrow_entries f n l h (x ∷ xs) (suc s) = narrow_entries f n l h xs s

-- ---- both: within the limits, and behind what stood before

pub record Sound (before es : List Entry) : Type 0 where
  pub fine : Fine before → Fine es
  pub behind : StandsBehind before es

pub sound_itself : (es : List Entry) → Sound es es
sound_itself es = record { fine = λ h. h; behind = stands_itself es }

pub change_sound : (f : Entry → Entry) → KeepsEntry f → (t : ℕ) (before es : List Entry) → Sound before es → Sound before (change_entry f t es)
change_sound f h t before es p = record {
  fine = λ k. change_keeps f (λ e. ap (λ (x : Kept). x.range) (h e)) t es (p.fine k);
  behind = (p.behind.0, same_kept f h t es ∙ p.behind.1);
}

pub added_sound : (s : Stage) (fs : List Entry) (names : Names) (t : Stage) → added s fs names ≡ good t → ((n : ℕ) → width_at fs n ≤ 64)
    → (before : List Entry) → Sound before s.design.entries → Sound before t.design.entries
added_sound s fs names t e h before p =
    let es = s.design.entries in
    let g = good_then (refused_if (nat_lt 1048576 (length es + length fs)) 601 None []) _ t e in
    record {
      fine = λ k. added_keeps s fs names t e h (p.fine k);
      behind = (
        p.behind.0 ++ map kept fs,
        subst (λ (u : Stage). map kept u.design.entries ≡ map kept before ++ (p.behind.0 ++ map kept fs)) (good_is _ t g.2)
            (kept_of_both es fs ∙ ap (λ ks. ks ++ map kept fs) p.behind.1 ∙ in_a_row (map kept before) p.behind.0 (map kept fs)),
      );
    }
