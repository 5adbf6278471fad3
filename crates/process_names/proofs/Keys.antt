-- Names that are put into a set one by one, and lists of names that are asked for those of a set.
use Rattle.std.proofs.Common.{◌≡◌, Bool, true, false, cond, not, ◌||◌, List, [], ◌∷◌, ◌++◌, map, Bor, Some, refl, sym, ap, ◌∙◌}
use Rattle.std.specs.Prelude.{bytes_eq, filter}
use Rattle.std.specs.Cmp.{both_ways}
use Rattle.std.proofs.Math.Bool.{or-false}
use Rattle.std.proofs.lemmas.List.Folds.{list_any-append}
use Rattle.std.proofs.lemmas.Slice.Eq.{bytes_eq-Decides}
use Rattle.cdc_base.specs.Words.{is_in}
use Rattle.verilog_reading.specs.StmtTree.{StmtTree}
use Rattle.flat_unfolding.specs.Outcome.{Text}
use Rattle.flat_unfolding.specs.Mentions.{read_names, blocking_names, delayed_names, target_names, is_mixed, first_named}
use Rattle.process_names.specs.Sets.{has, put}

turned : (x y : Text) → bytes_eq x y ≡ bytes_eq y x
turned x y = both_ways (bytes_eq x y) (bytes_eq y x) (λ h. (bytes_eq-Decides y x).1 (sym ((bytes_eq-Decides x y).0 h))) (λ h. (bytes_eq-Decides x y).1 (sym ((bytes_eq-Decides y x).0 h)))

put-has : (n : Bor Text) (keys : List (Bor Text)) (x : Text) → has (put n keys) x ≡ (has keys x || bytes_eq n.now x)
put-has n keys x = go (has keys n.now) refl
  where
    there : (b : Bool) → bytes_eq n.now x ≡ b → has keys n.now ≡ true → has keys x ≡ (has keys x || b)
    there true d e = let t : has keys x ≡ true = ap (has keys) (sym ((bytes_eq-Decides n.now x).0 d)) ∙ e in t ∙ sym (ap (λ c. c || true) t)
    there false d e = sym (or-false (has keys x))

    go : (b : Bool) → has keys n.now ≡ b → has (cond b keys (keys ++ n ∷ [])) x ≡ (has keys x || bytes_eq n.now x)
    go true e = there (bytes_eq n.now x) refl e
    go false e = list_any-append (λ (m : Bor Text). bytes_eq x m.now) keys (n ∷ []) ∙ ap (λ b. has keys x || b) (or-false (bytes_eq x n.now) ∙ turned x n.now)

pub set-more : (n : Bor Text) (keys rest left : List (Bor Text)) → left ≡ n ∷ rest → (x : Text)
    → (has (put n keys) x || is_in (map (λ (m : Bor Text). m.now) rest) x) ≡ (has keys x || is_in (map (λ (m : Bor Text). m.now) left) x)
set-more n keys rest left e x = ap (λ b. b || is_in (map (λ (m : Bor Text). m.now) rest) x) (put-has n keys x) ∙ turn (has keys x) (bytes_eq n.now x) (is_in (map (λ (m : Bor Text). m.now) rest) x)
    ∙ ap (λ (ns : List (Bor Text)). has keys x || is_in (map (λ (m : Bor Text). m.now) ns) x) (sym e)
  where
    turn : (a b c : Bool) → ((a || b) || c) ≡ (a || cond b true c)
    turn true b c = refl
    turn false true c = refl
    turn false false c = refl

in-both : (xs ys : List Text) (x : Text) → is_in (xs ++ ys) x ≡ (is_in xs x || is_in ys x)
in-both [] ys x = refl
in-both (n ∷ xs) ys x = ap (cond (bytes_eq n x) true) (in-both xs ys x) ∙ turn (bytes_eq n x) (is_in xs x) (is_in ys x)
  where
    turn : (a b c : Bool) → cond a true (b || c) ≡ (cond a true b || c)
    turn true b c = refl
    turn false b c = refl

-- ---- the same test in other words

first-same : (p q : Text → Bool) → ((x : Text) → p x ≡ q x) → (xs : List Text) → first_named p xs ≡ first_named q xs
first-same p q h [] = refl
first-same p q h (x ∷ xs) = ap (λ b. cond b (Some x) (first_named p xs)) (h x) ∙ ap (λ o. cond (q x) (Some x) o) (first-same p q h xs)

left-same : (p q : Text → Bool) → ((x : Text) → p x ≡ q x) → (xs : List Text) → filter (λ x. not (p x)) xs ≡ filter (λ x. not (q x)) xs
left-same p q h [] = refl
left-same p q h (x ∷ xs) = ap (λ b. cond (not b) (x ∷ filter (λ x. not (p x)) xs) (filter (λ x. not (p x)) xs)) (h x)
    ∙ ap (λ ns. cond (not (q x)) (x ∷ ns) ns) (left-same p q h xs)

pub mixed-first : (s : StmtTree) (keys : List (Bor Text)) (others : List Text) → ((x : Text) → has keys x ≡ is_in others x) → others ≡ (read_names s ++ blocking_names s) ++ delayed_names s
    → (xs : List Text) → first_named (has keys) xs ≡ first_named (is_mixed s) xs
mixed-first s keys others h e = first-same (has keys) (is_mixed s)
    (λ x. h x ∙ ap (λ ns. is_in ns x) e ∙ in-both (read_names s ++ blocking_names s) (delayed_names s) x ∙ ap (λ b. b || is_in (delayed_names s) x) (in-both (read_names s) (blocking_names s) x))

pub listed-left : (s : StmtTree) (keys : List (Bor Text)) (listed others : List Text) → ((x : Text) → has keys x ≡ is_in others x) → others ≡ listed ++ target_names s
    → (xs : List Text) → filter (λ x. not (has keys x)) xs ≡ filter (λ x. not (is_in listed x || is_in (target_names s) x)) xs
listed-left s keys listed others h e = left-same (has keys) (λ x. is_in listed x || is_in (target_names s) x) (λ x. h x ∙ ap (λ ns. is_in ns x) e ∙ in-both listed (target_names s) x)
