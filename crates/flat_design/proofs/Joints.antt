-- What is given so far, and what the rest will give.
use Rattle.std.proofs.Common.{◌≡◌, ℕ, zero, suc, ◌+◌, ◌<◌, not, ◌||◌, List, [], ◌∷◌, ◌++◌, length, map, drop, get_or, Option, Some, None, refl, sym, ap, subst, ◌∙◌, arith, append_assoc, append-nil}
use Rattle.std.specs.Prelude.{All, slice_get, flat_map, filter_map, option_map}
use Rattle.std.specs.List.{cons_option}
use Rattle.std.proofs.lemmas.List.Elements.{All-head, All-tail}
use Rattle.cdc_base.specs.Words.{is_in}
use Rattle.verilog_reading.specs.ExprTree.{ExprTree}
use Rattle.verilog_reading.specs.SourceTree.{ConnTree}
use Rattle.flat_unfolding.specs.Outcome.{Text, Broken, breaks_if}
use Rattle.flat_unfolding.specs.Instances.{Joint, if_among, ordered_joints, named_joint, unmet}
use Rattle.flat_names.specs.Noting.{Noted, all_noted}
use Rattle.flat_names.proofs.Notes.{noted-both}
use Rattle.flat_design.specs.Visiting.{joint_if}

-- ---- by order and by name

ordered-step : (names : List Text) (k : ℕ) (v : Option ExprTree) (rest : List (Option ExprTree)) → ordered_joints (drop k names) (v ∷ rest) ≡ joint_if (slice_get names k) v ++ ordered_joints (drop (suc k) names) rest
ordered-step [] zero None rest = refl
ordered-step [] zero (Some e) rest = refl
ordered-step [] (suc k) None rest = refl
ordered-step [] (suc k) (Some e) rest = refl
ordered-step (x ∷ names) zero None rest = refl
ordered-step (x ∷ names) zero (Some e) rest = refl
ordered-step (x ∷ names) (suc k) v rest = ordered-step names k v rest

pub ordered-next : (names : List Text) (k : ℕ) (v : Option ExprTree) (rest : List (Option ExprTree)) → ordered_joints (drop k names) (v ∷ rest) ≡ joint_if (slice_get names k) v ++ ordered_joints (drop (k + 1) names) rest
ordered-next names k v rest = let next : suc k ≡ k + 1 = omega arith in ordered-step names k v rest ∙ ap (λ i. joint_if (slice_get names k) v ++ ordered_joints (drop i names) rest) next

pub named-step : (names : List Text) (c : ConnTree) (rest : List ConnTree) → filter_map (named_joint names) (c ∷ rest) ≡ joint_if (if_among names c.name) c.value ++ filter_map (named_joint names) rest
named-step names c rest = go c.value
  where
    go : (v : Option ExprTree) → cons_option (option_map (λ (e : ExprTree). record { name = if_among names c.name; value = e }) v) (filter_map (named_joint names) rest)
        ≡ joint_if (if_among names c.name) v ++ filter_map (named_joint names) rest
    go None = refl
    go (Some e) = refl

-- what holds of all holds of the one at a place
pub item-at : {A B : Type 0} (P : B → Type 0) (f : A → B) (xs : List A) (i : ℕ) (x : A) → All P (map f xs) → i < length xs → x ≡ get_or xs i x → P (f x)
item-at P f [] i x h l e = absurd (omega arith)
item-at P f (y ∷ xs) zero x h l e = subst P (ap f (sym e)) (All-head P (f y) (map f xs) h)
item-at P f (y ∷ xs) (suc i) x h l e = item-at P f xs i x (All-tail P (f y) (map f xs) h) (omega arith) e

-- ---- what was given and noted

pub flat-both : {A B : Type 0} (f : A → List B) (xs ys : List A) → flat_map f (xs ++ ys) ≡ flat_map f xs ++ flat_map f ys
flat-both f [] ys = refl
flat-both f (x ∷ xs) ys = ap (λ zs. f x ++ zs) (flat-both f xs ys) ∙ sym (append_assoc (f x) (flat_map f xs) (flat_map f ys))

-- so much is given, with the rules that it breaks; P holds of what is given so far
module _ {S : Type 0} (P : List Joint → S → Type 0) (broken : Joint → List Broken) where
  pub record SoFar (all rest : List Joint) (now : S) (before noted : Noted) : Type 0 where
    pub done : List Joint
    pub whole : all ≡ done ++ rest
    pub holds : P done now
    pub notes : noted ≡ all_noted before (flat_map broken done)

  pub so-far-more : (all left more rest : List Joint) (old now : S) (before f g : Noted) → left ≡ more ++ rest → (h : SoFar all left old before f) → P (h.done ++ more) now → g ≡ all_noted f (flat_map broken more)
      → SoFar all rest now before g
  so-far-more all left more rest old now before f g e h p n = record {
    done = h.done ++ more;
    whole = h.whole ∙ ap (λ js. h.done ++ js) e ∙ sym (append_assoc h.done more rest);
    holds = p;
    notes = n ∙ ap (λ x. all_noted x (flat_map broken more)) h.notes ∙ sym (noted-both before (flat_map broken h.done) (flat_map broken more)) ∙ ap (all_noted before) (sym (flat-both broken h.done more));
  }

  pub so-far-all : (all : List Joint) (now : S) (before f : Noted) → SoFar all [] now before f → P all now × (f ≡ all_noted before (flat_map broken all))
  so-far-all all now before f h =
      let e : h.done ≡ all = sym (append-nil h.done) ∙ sym h.whole in
      (subst (λ js. P js now) e h.holds, h.notes ∙ ap (λ js. all_noted before (flat_map broken js)) e)

-- ---- names that are met

pub record MetSoFar {S : Type 0} (Has : S → List Text → Type 0) (word : Text) (names : List Text) (all rest : List ConnTree) (seen : S) (start now : Noted) : Type 0 where
  pub before : List Text
  pub has : Has seen before
  pub notes : all_noted now (unmet word names before rest) ≡ all_noted start (unmet word names [] all)

pub met-step : {S : Type 0} (Has : S → List Text → Type 0) (word : Text) (names : List Text) (all left rest : List ConnTree) (c : ConnTree) (seen next : S) (start now then : Noted) → left ≡ c ∷ rest
    → (h : MetSoFar Has word names all left seen start now) → Has next (c.name ∷ h.before) → then ≡ all_noted now (breaks_if (is_in h.before c.name || not (is_in names c.name)) 306 word)
    → MetSoFar Has word names all rest next start then
met-step Has word names all left rest c seen next start now then e h s n = record {
  before = c.name ∷ h.before;
  has = s;
  notes =
      ap (λ f. all_noted f (unmet word names (c.name ∷ h.before) rest)) n
      ∙ sym (noted-both now (breaks_if (is_in h.before c.name || not (is_in names c.name)) 306 word) (unmet word names (c.name ∷ h.before) rest))
      ∙ ap (λ cs. all_noted now (unmet word names h.before cs)) (sym e) ∙ h.notes;
}
