-- Target concatenations: parts added one by one, and what they make.
use Rattle.std.proofs.Common.{◌≡◌, ℕ, ◌+◌, ◌-◌, ◌^◌, min, Bool, true, false, cond, not, ◌&&◌, nat_lt, List, [], ◌∷◌, ◌++◌, map, Option, Some, None, is_some, refl, sym, ap, ap₂, subst, ◌∙◌, arith, append_assoc}
use Rattle.std.specs.Option.{option_map_or}
use Rattle.std.proofs.lemmas.List.{map-append, append-nil}
use Rattle.flat_meaning.specs.Flat as m
use Rattle.flat_meaning.proofs.Words.{by_lt}
use Rattle.verilog_reading.specs.ExprTree.{TargetTree, TargetTrees, no_parts, and_parts}
use Rattle.flat_form.specs.declared.flat.FTarget.{FTarget}
use Rattle.flat_form.specs.declared.flat.FTarget.TheVariants as f
use Rattle.flat_form.specs.View.{target_of, targets_of}
use Rattle.flat_form.proofs.Folds.{target_of-Join}
use Rattle.flat_unfolding.specs.Names.{Look}
use Rattle.flat_unfolding.specs.Constants.{both}
use Rattle.flat_unfolding.specs.Targets as t
use Rattle.flat_unfolding.specs.Targets.{Aim, Use, total, group_of}
use Rattle.flat_targets.specs.declared.target.Fixed.{Fixed}
use Rattle.flat_targets.specs.declared.target.FixedParts.{FixedParts}
use Rattle.flat_names.specs.Noting.{Noted, all_noted}
use Rattle.flat_targets.specs.Aims.{all_true, is_target_sized, IsAim, AreAims, AreAllAims, breaks_of}
use Rattle.flat_names.proofs.Options.{none-some, some-same}
use Rattle.flat_names.proofs.Joined.{held-most}
use Rattle.flat_targets.proofs.Aimed.{sized-Join, then-noted}

-- ---- one part more

abbrev sum_both : Option ℕ → Option ℕ → Option ℕ
sum_both x y = both (λ m n. m + n) x y

both-assoc : (x y z : Option ℕ) → sum_both x (sum_both y z) ≡ sum_both (sum_both x y) z
both-assoc None y z = refl
both-assoc (Some a) None z = refl
both-assoc (Some a) (Some b) None = refl
both-assoc (Some a) (Some b) (Some c) = ap Some (omega arith)

both-zero : (x : Option ℕ) → sum_both x (Some 0) ≡ sum_both (Some 0) x
both-zero None = refl
both-zero (Some n) = ap Some (omega arith)

pub some-both : {A B C : Type 0} (f : A → B → C) (x : Option A) (y : Option B) → is_some (both f x y) ≡ (is_some x && is_some y)
some-both f None y = refl
some-both f (Some a) None = refl
some-both f (Some a) (Some b) = refl

total-more : (bs : List Aim) (a : Aim) → total (bs ++ a ∷ []) ≡ sum_both (total bs) a.bits
total-more [] a = both-zero a.bits
total-more (b ∷ bs) a = ap (sum_both b.bits) (total-more bs a) ∙ both-assoc b.bits (total bs) a.bits

-- what two options hold of which one is made
pub record AreBoth {A B C : Type 0} (f : A → B → C) (x : Option A) (y : Option B) (z : C) : Type 0 where
  pub left : A
  pub right : B
  pub left_is : x ≡ Some left
  pub right_is : y ≡ Some right
  pub is : f left right ≡ z

pub are-both : {A B C : Type 0} (f : A → B → C) (x : Option A) (y : Option B) (z : C) → both f x y ≡ Some z → AreBoth f x y z
are-both f None y z e = none-some z e
are-both f (Some a) None z e = none-some z e
are-both f (Some a) (Some b) z e = record { left = a; right = b; left_is = refl; right_is = refl; is = some-same (f a b) z e }

true-more : (bs : List Bool) (b : Bool) → all_true (bs ++ b ∷ []) ≡ (all_true bs && b)
true-more [] true = refl
true-more [] false = refl
true-more (true ∷ bs) b = true-more bs b
true-more (false ∷ bs) b = refl

width-more : (w v x j k n : ℕ) → v ≡ min (2 ^ 64 - 1) j → x ≡ k → j + k ≡ n → w ≡ min (2 ^ 64 - 1) (v + x) → w ≡ min (2 ^ 64 - 1) n
width-more w v x j k n a b c d = omega arith

pub more-aims : (bs : List Aim) (a : Aim) (p q : FixedParts) (r : Fixed) → AreAims bs p → IsAim a r → q.items.items ≡ p.items.items ++ r.target ∷ []
    → q.width ≡ min (2 ^ 64 - 1) (p.width + r.width) → q.is_sound ≡ (p.is_sound && r.is_sound) → AreAims (bs ++ a ∷ []) q
more-aims bs a p q r h i items width sound = record {
  sound = sound ∙ ap₂ (λ x y. x && y) h.sound i.sound ∙ sym (ap is_some (total-more bs a) ∙ some-both {A = ℕ} {B = ℕ} {C = ℕ} (λ m n. m + n) (total bs) a.bits);
  width = λ n e. let s = are-both {A = ℕ} {B = ℕ} {C = ℕ} (λ m n. m + n) (total bs) a.bits n (sym (total-more bs a) ∙ e) in
      width-more q.width p.width r.width s.left s.right n (h.width s.left s.left_is) (i.width s.right s.right_is) s.is width;
  targets = ap (map target_of) items ∙ map-append target_of p.items.items (r.target ∷ []) ∙ ap₂ (λ xs x. xs ++ x ∷ []) h.targets i.target ∙ sym (map-append (λ (b : Aim). b.target) bs (a ∷ []));
  sized = ap (λ xs. all_true (map is_target_sized xs)) items ∙ ap all_true (map-append is_target_sized p.items.items (r.target ∷ [])) ∙ true-more (map is_target_sized p.items.items) (is_target_sized r.target)
      ∙ ap₂ (λ x y. x && y) h.sized i.sized;
}

-- ---- what parts make

abbrev is_wide : List Aim → Bool
is_wide bs = option_map_or (nat_lt 64) (total bs) false

pub wide-is : (bs : List Aim) (p : FixedParts) → AreAims bs p → (p.is_sound && nat_lt 64 p.width) ≡ option_map_or (nat_lt 64) (total bs) false
wide-is bs p h = go (total bs) refl
  where
    go : (o : Option ℕ) → total bs ≡ o → (p.is_sound && nat_lt 64 p.width) ≡ option_map_or (nat_lt 64) o false
    go None e = ap (λ b. b && nat_lt 64 p.width) (h.sound ∙ ap is_some e)
    go (Some n) e = ap₂ (λ b w. b && nat_lt 64 w) (h.sound ∙ ap is_some e) (h.width n e) ∙ held-most n

pub is-group : (bs : List Aim) (p : FixedParts) (w : Bool) → AreAims bs p → w ≡ option_map_or (nat_lt 64) (total bs) false
    → IsAim (group_of bs (total bs)) (record { target = f.Join p.items.items; width = p.width; is_sound = p.is_sound && not w })
is-group bs p w h e = record {
  sound = ap₂ (λ s v. s && not v) h.sound e ∙ fits (is_wide bs) (total bs);
  width = λ n d. narrow n (total bs) refl d;
  target = target_of-Join p.items.items ∙ ap (λ xs. m.Group (targets_of xs)) h.targets;
  sized = sized-Join p.items.items ∙ h.sized;
}
  where
    fits : (v : Bool) (o : Option ℕ) → (is_some o && not v) ≡ is_some (cond v None o)
    fits true None = refl
    fits true (Some n) = refl
    fits false None = refl
    fits false (Some n) = refl

    narrow : (n : ℕ) (o : Option ℕ) → total bs ≡ o → cond (option_map_or (nat_lt 64) o false) None o ≡ Some n → p.width ≡ n
    narrow n None e d = none-some n d
    narrow n (Some k) e d = by_lt (λ b. cond b None (Some k) ≡ Some n → p.width ≡ n) 64 k (λ l d. none-some n d) (λ l d. let s = some-same k n d in let i = h.width k e in omega arith) d

pub is-group-of : (bs : List Aim) (p : FixedParts) (w s : Bool) (xs : List FTarget) → AreAims bs p → w ≡ option_map_or (nat_lt 64) (total bs) false → s ≡ (p.is_sound && not w) → xs ≡ p.items.items
    → IsAim (group_of bs (total bs)) (record { target = f.Join xs; width = p.width; is_sound = s })
is-group-of bs p w s xs h e d c = subst (λ xs. IsAim (group_of bs (total bs)) (record { target = f.Join xs; width = p.width; is_sound = s })) (sym c)
    (subst (λ s. IsAim (group_of bs (total bs)) (record { target = f.Join p.items.items; width = p.width; is_sound = s })) (sym d) (is-group bs p w h e))

-- ---- part after part

pub breaks-more : (bs : List Aim) (a : Aim) → breaks_of (bs ++ a ∷ []) ≡ breaks_of bs ++ a.broken
breaks-more [] a = append-nil a.broken
breaks-more (b ∷ bs) a = ap (λ xs. b.broken ++ xs) (breaks-more bs a) ∙ sym (append_assoc b.broken (breaks_of bs) a.broken)

-- the parts so far, where the trees `rest` are left of `all`
pub record SoFar (l : Look) (u : Use) (all rest : TargetTrees) (f g : Noted) (p : FixedParts) : Type 0 where
  pub done : List Aim
  pub is : t.aims l u all ≡ done ++ t.aims l u rest
  pub are : AreAims done p
  pub noted : g ≡ all_noted f (breaks_of done)

pub so-more : (l : Look) (u : Use) (all rest : TargetTrees) (tree : TargetTree) (f g h : Noted) (p q : FixedParts) → (s : SoFar l u all (and_parts tree rest) f g p)
    → AreAims (s.done ++ t.aim l u tree ∷ []) q → h ≡ all_noted g (t.aim l u tree).broken → SoFar l u all rest f h q
so-more l u all rest tree f g h p q s are e = record {
  done = s.done ++ t.aim l u tree ∷ [];
  is = s.is ∙ sym (append_assoc s.done (t.aim l u tree ∷ []) (t.aims l u rest));
  are = are;
  noted = then-noted f g h (breaks_of s.done) (t.aim l u tree).broken s.noted e ∙ ap (all_noted f) (sym (breaks-more s.done (t.aim l u tree)));
}

pub so-all : (l : Look) (u : Use) (all : TargetTrees) (f g : Noted) (p : FixedParts) → SoFar l u all no_parts f g p → AreAllAims l u all f g p
so-all l u all f g p s = let e = s.is ∙ append-nil s.done in record {
  are = subst (λ bs. AreAims bs p) (sym e) s.are;
  noted = s.noted ∙ ap (λ bs. all_noted f (breaks_of bs)) (sym e);
}
