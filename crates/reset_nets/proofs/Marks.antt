-- Marks of the assignments that go to signals.
use Rattle.std.proofs.Common.{◌≡◌, ◌≢◌, ℕ, zero, suc, Bool, true, false, cond, List, [], ◌∷◌, ◌++◌, length, Option, Some, None, refl, sym, ap, ◌∙◌, rules, slice_get, eqb-true}
use Rattle.std.specs.Prelude.{filter, option_map}
use Rattle.flat_meaning.specs.Flat.{Expr, Target, Whole, Part, Pick, Group, is_target}
use Rattle.reset_nets.specs.declared.drives.Drive.{Drive}
use Rattle.reset_nets.specs.declared.drives.Drive.TheVariants.{Nothing, Once, Otherwise}
use Rattle.reset_nets.specs.Nets.{goes_to, plain_value}
use Rattle.reset_nets.specs.Finding.{also, drive_of, noted, Tells, value_of}

abbrev Assign : Type 0
Assign = Target × Expr

filter_push : (p : Assign → Bool) (given : List Assign) (a : Assign) → filter p (given ++ a ∷ []) ≡ filter p given ++ cond (p a) (a ∷ []) []
filter_push p [] a = one (p a)
  where
    one : (b : Bool) → cond b (a ∷ []) [] ≡ cond b (a ∷ []) []
    one b = refl
filter_push p (x ∷ given) a = go (p x) (filter_push p given a)
  where
    go : (b : Bool) → filter p (given ++ a ∷ []) ≡ filter p given ++ cond (p a) (a ∷ []) [] → cond b (x ∷ filter p (given ++ a ∷ [])) (filter p (given ++ a ∷ [])) ≡ cond b (x ∷ filter p given) (filter p given) ++ cond (p a) (a ∷ []) []
    go true h = ap (λ ys. x ∷ ys) h
    go false h = h

no_more : (xs : List Assign) → xs ++ [] ≡ xs
no_more [] = refl
no_more (x ∷ xs) = ap (λ ys. x ∷ ys) (no_more xs)

get_old : (given : List Assign) (a : Assign) (k : ℕ) (x : Assign) → slice_get given k ≡ Some x → slice_get (given ++ a ∷ []) k ≡ Some x
get_old [] a k x h = absurd (search (rules, h))
get_old (y ∷ given) a zero x h = h
get_old (y ∷ given) a (suc k) x h = get_old given a k x h

get_new : (given : List Assign) (a : Assign) → slice_get (given ++ a ∷ []) (length given) ≡ Some a
get_new [] a = refl
get_new (y ∷ given) a = get_new given a

not_plain : (x y : Assign) (zs : List Assign) → plain_value (x ∷ y ∷ zs) ≡ None
not_plain x y zs = go x.0 x.1
  where
    go : (t : Target) (e : Expr) → plain_value ((t, e) ∷ y ∷ zs) ≡ None
    go (Whole s) e = refl
    go (Part s at w) e = refl
    go (Pick s i) e = refl
    go (Group ts) e = refl

never_plain : (xs : List Assign) (a : Assign) → xs ≢ [] → plain_value (xs ++ a ∷ []) ≡ None
never_plain [] a h = absurd (h refl)
never_plain (x ∷ []) a h = not_plain x a []
never_plain (x ∷ y ∷ xs) a h = not_plain x y (xs ++ a ∷ [])

some_more : (xs : List Assign) (a : Assign) → (xs ++ a ∷ []) ≢ []
some_more [] a e = search (rules, e)
some_more (x ∷ xs) a e = search (rules, e)

module _ (given : List Assign) (s : ℕ) (t : Target) (e : Expr) where
  abbrev before : List Assign
  before = filter (goes_to s) given

  abbrev after : List Assign
  after = filter (goes_to s) (given ++ (t, e) ∷ [])

  -- an assignment to another signal
  passes : is_target t s ≡ false → after ≡ before
  passes d = filter_push (goes_to s) given (t, e) ∙ ap (λ b. before ++ cond b ((t, e) ∷ []) []) d ∙ no_more before

  -- an assignment to this one
  joins : is_target t s ≡ true → after ≡ before ++ (t, e) ∷ []
  joins d = filter_push (goes_to s) given (t, e) ∙ ap (λ b. before ++ cond b ((t, e) ∷ []) []) d

  tells_other : (d : Drive) → is_target t s ≡ false → Tells given s d → Tells (given ++ (t, e) ∷ []) s d
  tells_other Nothing f h = passes f ∙ h
  tells_other (Once k) f h = (h.0, get_old given (t, e) k (Whole s, h.0) h.1, passes f ∙ h.2)
  tells_other Otherwise f h = ((λ z. h.0 (sym (passes f) ∙ z)), ap plain_value (passes f) ∙ h.1)

tells_first : (given : List Assign) (s : ℕ) (t : Target) (e : Expr) → is_target t s ≡ true → filter (goes_to s) given ≡ [] → Tells (given ++ (t, e) ∷ []) s (drive_of (length given) t)
tells_first given s (Whole r) e f h =
    let same : r ≡ s = sym (eqb-true s r f) in
    let whole : (Whole r, e) ≡ (Whole s, e) = ap (λ q. (Whole q, e)) same in
    (e, get_new given (Whole r, e) ∙ ap Some whole, joins given s (Whole r) e f ∙ ap (λ xs. xs ++ (Whole r, e) ∷ []) h ∙ ap (λ x. x ∷ []) whole)
tells_first given s (Part r at w) e f h =
    let all = joins given s (Part r at w) e f ∙ ap (λ xs. xs ++ (Part r at w, e) ∷ []) h in
    ((λ z. some_more [] (Part r at w, e) (sym all ∙ z)), ap plain_value all)
tells_first given s (Pick r i) e f h =
    let all = joins given s (Pick r i) e f ∙ ap (λ xs. xs ++ (Pick r i, e) ∷ []) h in
    ((λ z. some_more [] (Pick r i, e) (sym all ∙ z)), ap plain_value all)
tells_first given s (Group ts) e f h =
    let all = joins given s (Group ts) e f ∙ ap (λ xs. xs ++ (Group ts, e) ∷ []) h in
    ((λ z. some_more [] (Group ts, e) (sym all ∙ z)), ap plain_value all)

-- a mark tells the same of one assignment more
pub tells_more : (given : List Assign) (s : ℕ) (t : Target) (e : Expr) (d : Drive) → Tells given s d → Tells (given ++ (t, e) ∷ []) s (noted s (length given) t d)
tells_more given s t e d h = go (is_target t s) refl
  where
    more : (d : Drive) → Tells given s d → is_target t s ≡ true → Tells (given ++ (t, e) ∷ []) s (also d (drive_of (length given) t))
    more Nothing h f = tells_first given s t e f h
    more (Once k) h f =
        let all = joins given s t e f ∙ ap (λ xs. xs ++ (t, e) ∷ []) h.2 in
        ((λ z. some_more ((Whole s, h.0) ∷ []) (t, e) (sym all ∙ z)), ap plain_value all)
    more Otherwise h f =
        let all = joins given s t e f in
        ((λ z. some_more (filter (goes_to s) given) (t, e) (sym all ∙ z)), ap plain_value all ∙ never_plain (filter (goes_to s) given) (t, e) h.0)

    go : (b : Bool) → is_target t s ≡ b → Tells (given ++ (t, e) ∷ []) s (cond b (also d (drive_of (length given) t)) d)
    go true f = more d h f
    go false f = tells_other given s t e d f h

-- the value that a mark tells
pub told_value : (given : List Assign) (s : ℕ) (d : Drive) → Tells given s d → plain_value (filter (goes_to s) given) ≡ value_of given d
told_value given s Nothing h = ap plain_value h
told_value given s (Once k) h = ap plain_value h.2 ∙ sym (ap (λ (o : Option Assign). option_map (λ (a : Assign). a.1) o) h.1)
told_value given s Otherwise h = h.1
