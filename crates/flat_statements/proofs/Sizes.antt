-- What is rightly sized keeps sizes.
use Rattle.std.proofs.Common.{◌≡◌, ℕ, ◌+◌, ◌*◌, max, Bool, true, ◌&&◌, ◌==◌, List, [], ◌∷◌, map, refl, sym, ap, ap₂, subst, ◌∙◌}
use Rattle.std.proofs.lemmas.Bool.{and_parts}
use Rattle.std.specs.List.{list_all}
use Rattle.flat_form.specs.declared.flat.FExpr.{FExpr, map-FExpr}
use Rattle.flat_form.specs.declared.flat.FExpr.TheOpen.{FExpr-F}
use Rattle.flat_form.specs.declared.flat.FExpr.TheFolds.{ind-FExpr, fold-roll-FExpr}
use Rattle.flat_form.specs.declared.flat.FExpr.TheViews.{roll-FExpr}
use Rattle.flat_form.specs.declared.flat.FTarget.{FTarget, map-FTarget}
use Rattle.flat_form.specs.declared.flat.FTarget.TheOpen.{FTarget-F}
use Rattle.flat_form.specs.declared.flat.FTarget.TheFolds.{ind-FTarget, fold-roll-FTarget}
use Rattle.flat_form.specs.View.{unary_of, binary_of}
use Rattle.flat_form.specs.Sizes.{Kept, is_word, kept_of, is_sized, kept_step, sum, all_right, all_bits, is_some_list}
use Rattle.flat_meaning.specs.Flat as f
use Rattle.flat_unfolding.specs.Widths.{width_step, width_of, keeps_sizes, all_true, target_step, target_keeps_sizes}
use Rattle.flat_targets.specs.Aims as a
use Rattle.flat_targets.specs.Aims.{is_target_sized, sized_step}

pub both-true : (a b : Bool) → a ≡ true → b ≡ true → (a && b) ≡ true
both-true a b h k = ap₂ (λ p q. p && q) h k

-- both folds keep one width; where the one is right, so is the other
record Keeps (w k : Kept) : Type 0 where
  pub same : w.width ≡ k.width
  pub right : k.right ≡ true → w.right ≡ true

abbrev E : Type 0
E = (e : FExpr) × Keeps (width_of e) (kept_of e)

abbrev width_layer : FExpr-F FExpr → Kept
width_layer x = width_step (map-FExpr FExpr Kept width_of x)

abbrev kept_layer : FExpr-F FExpr → Kept
kept_layer x = kept_step (map-FExpr FExpr Kept kept_of x)

abbrev plain : FExpr-F E → FExpr-F FExpr
plain = map-FExpr E FExpr (λ e. e.0)

abbrev firsts : List E → List FExpr
firsts = map (λ (e : E). e.0)

same-sum : (es : List E) → sum (map width_of (firsts es)) ≡ sum (map kept_of (firsts es))
same-sum [] = refl
same-sum (e ∷ es) = ap₂ (λ m n. m + n) e.1.same (same-sum es)

parts-keep : (es : List E) → all_right (map kept_of (firsts es)) ≡ true → all_right (map width_of (firsts es)) ≡ true
parts-keep [] h = refl
parts-keep (e ∷ es) h =
    let p = and_parts (is_sized e.0) (all_right (map kept_of (firsts es))) h in
    both-true (width_of e.0).right (all_right (map width_of (firsts es))) (e.1.right p.0) (parts-keep es p.1)

-- a width that is a size of the parts' widths
sized-by : (w m n : ℕ) (a b : Bool) → m ≡ n → (a ≡ true → b ≡ true) → ((w == n) && a) ≡ true → ((w == m) && b) ≡ true
sized-by w m n a b e h k = let p = and_parts (w == n) a k in both-true (w == m) b (ap (λ i. w == i) e ∙ p.0) (h p.1)

layer-keeps : (y : FExpr-F E) → Keeps (width_layer (plain y)) (kept_layer (plain y))
layer-keeps (FExpr-F.Number value width) = record { same = refl; right = λ h. refl }
layer-keeps (FExpr-F.Read sig at width) = record { same = refl; right = λ h. refl }
layer-keeps (FExpr-F.At sig index width) = record { same = refl; right = sized-by width 1 1 _ _ refl index.value.1.right }
layer-keeps (FExpr-F.Unary op a width) = record { same = refl; right = sized-by width _ _ _ _ (ap (f.unary_size (unary_of op)) a.value.1.same) a.value.1.right }
layer-keeps (FExpr-F.Binary op a b width) = record {
  same = refl;
  right = sized-by width _ _ (is_sized a.value.0 && is_sized b.value.0) (keeps_sizes a.value.0 && keeps_sizes b.value.0) (ap₂ (f.binary_size (binary_of op)) a.value.1.same b.value.1.same)
      (λ h. let p = and_parts (is_sized a.value.0) (is_sized b.value.0) h in both-true _ _ (a.value.1.right p.0) (b.value.1.right p.1));
}
layer-keeps (FExpr-F.Choose c x y width) = record {
  same = refl;
  right = sized-by width _ _ (is_sized c.value.0 && (is_sized x.value.0 && is_sized y.value.0)) (keeps_sizes c.value.0 && (keeps_sizes x.value.0 && keeps_sizes y.value.0)) (ap₂ max x.value.1.same y.value.1.same)
      (λ h. let p = and_parts (is_sized c.value.0) (is_sized x.value.0 && is_sized y.value.0) h in let q = and_parts (is_sized x.value.0) (is_sized y.value.0) p.1 in
      both-true _ _ (c.value.1.right p.0) (both-true _ _ (x.value.1.right q.0) (y.value.1.right q.1)));
}
layer-keeps (FExpr-F.Gate op inputs) = record {
  same = refl;
  right = λ h. let ks = map kept_of (firsts inputs) in let p = and_parts (is_some_list ks) (all_bits ks && all_right ks) h in let q = and_parts (all_bits ks) (all_right ks) p.1 in parts-keep inputs q.1;
}
layer-keeps (FExpr-F.Join parts width) = record {
  same = refl;
  right = let ks = map kept_of (firsts parts) in
      sized-by width _ _ (is_word width && all_right ks) (all_right (map width_of (firsts parts))) (same-sum parts) (λ h. let p = and_parts (is_word width) (all_right ks) h in parts-keep parts p.1);
}
layer-keeps (FExpr-F.Repeat count parts width) = record {
  same = refl;
  right = let ks = map kept_of (firsts parts) in
      sized-by width _ _ (is_word width && all_right ks) (all_right (map width_of (firsts parts))) (ap (λ n. count * n) (same-sum parts)) (λ h. let p = and_parts (is_word width) (all_right ks) h in parts-keep parts p.1);
}

keeps : (e : FExpr) → Keeps (width_of e) (kept_of e)
keeps = ind-FExpr (λ e. Keeps (width_of e) (kept_of e)) (λ x y is.
    subst (λ (k : Kept). Keeps (width_of (roll-FExpr x)) k) (sym (fold-roll-FExpr Kept kept_step x))
    (subst (λ (k : Kept). Keeps k (kept_layer x)) (sym (fold-roll-FExpr Kept width_step x)) (subst (λ z. Keeps (width_layer z) (kept_layer z)) is (layer-keeps y))))

pub sized-keeps : (e : FExpr) → is_sized e ≡ true → keeps_sizes e ≡ true
sized-keeps e h = (keeps e).right h

pub all-keep : (es : List FExpr) → list_all is_sized es ≡ true → list_all keeps_sizes es ≡ true
all-keep [] h = refl
all-keep (e ∷ es) h = let p = and_parts (is_sized e) (list_all is_sized es) h in both-true (keeps_sizes e) (list_all keeps_sizes es) (sized-keeps e p.0) (all-keep es p.1)

-- ---- targets

abbrev TargetKeeps : FTarget → Type 0
TargetKeeps t = is_target_sized t ≡ true → target_keeps_sizes t ≡ true

abbrev T : Type 0
T = (t : FTarget) × TargetKeeps t

targets-keep : (ts : List T) → a.all_true (map is_target_sized (map (λ (t : T). t.0) ts)) ≡ true → all_true (map target_keeps_sizes (map (λ (t : T). t.0) ts)) ≡ true
targets-keep [] h = refl
targets-keep (t ∷ ts) h = let p = and_parts (is_target_sized t.0) _ h in both-true (target_keeps_sizes t.0) _ (t.1 p.0) (targets-keep ts p.1)

abbrev sized_layer : FTarget-F FTarget → Bool
sized_layer x = sized_step (map-FTarget FTarget Bool is_target_sized x)

abbrev keeps_layer : FTarget-F FTarget → Bool
keeps_layer x = target_step (map-FTarget FTarget Bool target_keeps_sizes x)

target-layer : (y : FTarget-F T) → sized_layer (map-FTarget T FTarget (λ t. t.0) y) ≡ true → keeps_layer (map-FTarget T FTarget (λ t. t.0) y) ≡ true
target-layer (FTarget-F.Whole sig) h = refl
target-layer (FTarget-F.At sig index) h = sized-keeps index h
target-layer (FTarget-F.Part sig at width) h = refl
target-layer (FTarget-F.Join parts) h = targets-keep parts h

pub target-sized-keeps : (t : FTarget) → is_target_sized t ≡ true → target_keeps_sizes t ≡ true
target-sized-keeps = ind-FTarget TargetKeeps (λ x y is h.
    fold-roll-FTarget Bool target_step x ∙ subst (λ z. sized_layer z ≡ true → keeps_layer z ≡ true) is (target-layer y) (sym (fold-roll-FTarget Bool sized_step x) ∙ h))
