-- What a module and all its instances declare has printed names that differ.
use Rattle.std.proofs.Common.{◌≡◌, ◌≢◌, ◌+◌, ◌≤◌, Bool, true, false, ◌||◌, nat_lt, List, [], ◌∷◌, ◌++◌, length, map, All, Some, None, refl, sym, ap, subst, ◌∙◌, arith, rules, is_some, if◌then◌else◌, bytes_eq, ltb-false}
use Rattle.std.proofs.lemmas.List.Elements.{All-head, All-cons, All-nil, All-tail, All-append, All-weaker}
use Rattle.std.proofs.lemmas.Slice.Eq.{bytes_eq-Decides}
use Rattle.cdc_base.specs.Words.{found_in}
use Rattle.flat_unfolding.specs.Outcome.{Text, good, refused_if}
use Rattle.flat_unfolding.specs.Names.{Meaning, no_value, Names, is_declared, Entry, printed_part}
use Rattle.flat_unfolding.specs.Declarations.{added, taken_names}
use Rattle.flat_unfolding.specs.Design.{Stage}
use Rattle.flat_unfolding.proofs.Steps.{good_is, good_then, not_refused}
use Rattle.signal_names.specs.Paths.{is_visible, path_text, IsPrinted}
use Rattle.signal_names.specs.Laws.{IsNotAmong, AreDifferent}
use Rattle.signal_names.proofs.Cuts.{path_cut, same_behind}

-- ---- lists of names that differ

among_both : (x : Text) (xs ys : List Text) → IsNotAmong x xs → IsNotAmong x ys → IsNotAmong x (xs ++ ys)
among_both x [] ys h k = k
among_both x (y ∷ xs) ys h k = (h.0, among_both x xs ys h.1 k)

differ_both : (xs ys : List Text) → AreDifferent xs → AreDifferent ys → All (λ x. IsNotAmong x ys) xs → AreDifferent (xs ++ ys)
differ_both [] ys h k a = k
differ_both (x ∷ xs) ys h k a =
    (among_both x xs ys h.0 (All-head (λ x. IsNotAmong x ys) x xs a), differ_both xs ys h.1 k (All-tail (λ x. IsNotAmong x ys) x xs a))

three_in_a_row : (xs ys zs : List Text) → (xs ++ ys) ++ zs ≡ xs ++ (ys ++ zs)
three_in_a_row [] ys zs = refl
three_in_a_row (x ∷ xs) ys zs = ap (λ ks. x ∷ ks) (three_in_a_row xs ys zs)

-- ---- names that are declared

declared_either : (names more : Names) (x : Text) → is_declared (names ++ more) x ≡ (is_declared names x || is_declared more x)
declared_either [] more x = refl
declared_either (n ∷ names) more x = go (bytes_eq n.0 x) (declared_either names more x)
  where
    go : (b : Bool) → is_declared (names ++ more) x ≡ (is_declared names x || is_declared more x)
        → is_some (if b then Some n.1 else (found_in (names ++ more) x)) ≡ (is_some (if b then Some n.1 else (found_in names x)) || is_declared more x)
    go true e = refl
    go false e = e

or_first : (a b : Bool) → a ≡ true → (a || b) ≡ true
or_first true b e = refl
or_first false b e = absurd (search (rules, e))

or_second : (a b : Bool) → b ≡ true → (a || b) ≡ true
or_second true b e = refl
or_second false b e = e

pub still_declared : (names more : Names) (x : Text) → is_declared names x ≡ true → is_declared (names ++ more) x ≡ true
still_declared names more x h = declared_either names more x ∙ or_first (is_declared names x) (is_declared more x) h

pub newly_declared : (names more : Names) (x : Text) → is_declared more x ≡ true → is_declared (names ++ more) x ≡ true
newly_declared names more x h = declared_either names more x ∙ or_second (is_declared names x) (is_declared more x) h

first_declared : (x : Text) (m : Meaning) (rest : Names) → is_declared ((x, m) ∷ rest) x ≡ true
first_declared x m rest = go (bytes_eq x x) ((bytes_eq-Decides x x).1 refl)
  where
    go : (b : Bool) → b ≡ true → is_some (if b then Some m else (found_in rest x)) ≡ true
    go true e = refl
    go false e = absurd (search (rules, e))

pub one_declared : (x : Text) (m : Meaning) → is_declared ((x, m) ∷ []) x ≡ true
one_declared x m = first_declared x m []

rest_declared : (q : Text × Meaning) (rest : Names) (x : Text) → is_declared rest x ≡ true → is_declared (q ∷ rest) x ≡ true
rest_declared q rest x h = newly_declared (q ∷ []) rest x h

pub taken_declared : (xs : List Text) → All (λ x. is_declared (taken_names xs) x ≡ true) xs
taken_declared [] = All-nil (λ x. is_declared (taken_names []) x ≡ true)
taken_declared (x ∷ xs) =
    All-cons (λ z. is_declared (taken_names (x ∷ xs)) z ≡ true) x xs (first_declared x no_value (taken_names xs))
    (All-weaker (λ z. is_declared (taken_names xs) z ≡ true) (λ z. is_declared (taken_names (x ∷ xs)) z ≡ true)
    (λ z h. rest_declared (x, no_value) (taken_names xs) z h) xs (taken_declared xs))

-- ---- names below a module

-- the instance of the module that leads to a signal, or the signal itself
abbrev pub first_of : List Text → Text → Text
first_of [] x = x
first_of (u ∷ path) x = u

first_same : (p q : List Text) (x y : Text) → p ≡ q → x ≡ y → first_of p x ≡ first_of q y
first_same p q x y e f = ap (λ z. first_of z x) e ∙ ap (first_of q) f

-- the module declares it
pub record IsBelow (prefix : Text) (names : Names) (text : Text) : Type 0 where
  pub printed : IsPrinted prefix text
  pub declared : is_declared names (first_of printed.path printed.own) ≡ true

-- the module declares it newly
pub record IsNew (prefix : Text) (before after : Names) (text : Text) : Type 0 where
  pub printed : IsPrinted prefix text
  pub fresh : is_declared before (first_of printed.path printed.own) ≡ false
  pub declared : is_declared after (first_of printed.path printed.own) ≡ true

module _ (prefix : Text) (before after : Names) where
  apart : (x y : Text) → IsBelow prefix before x → IsNew prefix before after y → x ≢ y
  apart x y h k e =
      let a = h.printed in let b = k.printed in
      let t = path_cut a.path b.path a.own b.own a.visible_path b.visible_path a.visible b.visible (same_behind prefix (path_text a.path a.own) (path_text b.path b.own) (sym a.is ∙ e ∙ b.is)) in
      let f = sym h.declared ∙ ap (is_declared before) (first_same a.path b.path a.own b.own t.0 t.1) ∙ k.fresh in
      search (rules, f)

  apart_all : (x : Text) → IsBelow prefix before x → (ys : List Text) → All (IsNew prefix before after) ys → IsNotAmong x ys
  apart_all x h [] k = tt
  apart_all x h (y ∷ ys) k = (apart x y h (All-head (IsNew prefix before after) y ys k), apart_all x h ys (All-tail (IsNew prefix before after) y ys k))

  all_apart : (xs ys : List Text) → All (IsBelow prefix before) xs → All (IsNew prefix before after) ys → All (λ x. IsNotAmong x ys) xs
  all_apart xs ys h k = All-weaker (IsBelow prefix before) (λ x. IsNotAmong x ys) (λ x i. apart_all x i ys k) xs h

-- ---- stages

abbrev pub printed_of : List Entry → List Text
printed_of es = map (λ (e : Entry). e.printed) es

pub printed_both : (es fs : List Entry) → printed_of (es ++ fs) ≡ printed_of es ++ printed_of fs
printed_both [] fs = refl
printed_both (e ∷ es) fs = ap (λ ks. e.printed ∷ ks) (printed_both es fs)

-- the signals behind those before are named by the module
pub record IsNamed (prefix : Text) (before : List Text) (s : Stage) : Type 0 where
  pub mine : List Text
  pub behind : printed_of s.design.entries ≡ before ++ mine
  pub below : All (IsBelow prefix s.names) mine
  pub differ : AreDifferent mine

-- a step that changes neither names nor printed names
pub record IsQuiet (s t : Stage) : Type 0 where
  pub names : t.names ≡ s.names
  pub printed : printed_of t.design.entries ≡ printed_of s.design.entries

-- a step that adds signals which the module newly declares
pub record Adds (prefix : Text) (s t : Stage) : Type 0 where
  pub more : List Text
  pub printed : printed_of t.design.entries ≡ printed_of s.design.entries ++ more
  pub news : All (IsNew prefix s.names t.names) more
  pub differ : AreDifferent more
  pub kept : (x : Text) → is_declared s.names x ≡ true → is_declared t.names x ≡ true

module _ (prefix : Text) (before : List Text) (s t : Stage) where
  pub quiet_named : IsQuiet s t → IsNamed prefix before s → IsNamed prefix before t
  quiet_named q h = record {
    mine = h.mine;
    behind = q.printed ∙ h.behind;
    below = subst (λ names. All (IsBelow prefix names) h.mine) (sym q.names) h.below;
    differ = h.differ;
  }

  pub added_named : Adds prefix s t → IsNamed prefix before s → IsNamed prefix before t
  added_named a h = record {
    mine = h.mine ++ a.more;
    behind = a.printed ∙ ap (λ ks. ks ++ a.more) h.behind ∙ three_in_a_row before h.mine a.more;
    below = All-append (IsBelow prefix t.names) h.mine a.more
        (All-weaker (IsBelow prefix s.names) (IsBelow prefix t.names) (λ x i. record { printed = i.printed; declared = a.kept _ i.declared }) h.mine h.below)
        (All-weaker (IsNew prefix s.names t.names) (IsBelow prefix t.names) (λ x i. record { printed = i.printed; declared = i.declared }) a.more a.news);
    differ = differ_both h.mine a.more h.differ a.differ (all_apart prefix s.names t.names h.mine a.more h.below a.news);
  }

-- a name alone
pub adds_name : (prefix : Text) (s : Stage) (more : Names) → Adds prefix s (record s { names = s.names ++ more })
adds_name prefix s more = record {
  more = [];
  printed = go (printed_of s.design.entries);
  news = All-nil (IsNew prefix s.names (s.names ++ more));
  differ = tt;
  kept = λ x h. still_declared s.names more x h;
}
  where
    go : (ks : List Text) → ks ≡ ks ++ []
    go [] = refl
    go (k ∷ ks) = ap (λ ls. k ∷ ls) (go ks)

-- ---- declared signals

module _ (prefix : Text) where
  abbrev pub text_of : Text → Text
  text_of x = prefix ++ printed_part x

  abbrev pub own_printed : (x : Text) → is_visible x ≡ true → IsPrinted prefix (text_of x)
  own_printed x v = record { path = []; own = x; visible_path = refl; visible = v; is = refl }

  texts_differ : (x y : Text) → is_visible x ≡ true → is_visible y ≡ true → x ≢ y → text_of x ≢ text_of y
  texts_differ x y v w n e = n (path_cut [] [] x y refl refl v w (same_behind prefix (printed_part x) (printed_part y) e)).1

  -- what is undeclared, is declared now, and has visible bytes
  pub record IsFresh (before after : Names) (x : Text) : Type 0 where
    pub visible : is_visible x ≡ true
    pub fresh : is_declared before x ≡ false
    pub declared : is_declared after x ≡ true

  fresh_new : (before after : Names) (xs : List Text) → All (IsFresh before after) xs → All (IsNew prefix before after) (map text_of xs)
  fresh_new before after [] h = All-nil (IsNew prefix before after)
  fresh_new before after (x ∷ xs) h = let i = All-head (IsFresh before after) x xs h in
      All-cons (IsNew prefix before after) (text_of x) (map text_of xs) (record { printed = own_printed x i.visible; fresh = i.fresh; declared = i.declared })
      (fresh_new before after xs (All-tail (IsFresh before after) x xs h))

  not_among_texts : (x : Text) → is_visible x ≡ true → (xs : List Text) → All (λ y. is_visible y ≡ true) xs → IsNotAmong x xs → IsNotAmong (text_of x) (map text_of xs)
  not_among_texts x v [] h n = tt
  not_among_texts x v (y ∷ xs) h n =
      (texts_differ x y v (All-head (λ y. is_visible y ≡ true) y xs h) n.0, not_among_texts x v xs (All-tail (λ y. is_visible y ≡ true) y xs h) n.1)

  texts_all_differ : (xs : List Text) → All (λ y. is_visible y ≡ true) xs → AreDifferent xs → AreDifferent (map text_of xs)
  texts_all_differ [] h d = tt
  texts_all_differ (x ∷ xs) h d =
      let v = All-head (λ y. is_visible y ≡ true) x xs h in let w = All-tail (λ y. is_visible y ≡ true) x xs h in
      (not_among_texts x v xs w d.0, texts_all_differ xs w d.1)

  -- further signals of the module
  pub adds_signals : (s : Stage) (es : List Entry) (more : Names) (xs : List Text) (t : Stage) → added s es more ≡ good t → printed_of es ≡ map text_of xs
      → ((length s.design.entries + length es ≤ 1048576) → All (IsFresh s.names (s.names ++ more)) xs × AreDifferent xs) → Adds prefix s t
  adds_signals s es more xs t e p h =
      let g = good_then (refused_if (nat_lt 1048576 (length s.design.entries + length es)) 601 None []) _ t e in
      let n = ltb-false 1048576 (length s.design.entries + length es) (not_refused _ 601 None [] g.0 g.1) in
      let f = h (omega arith) in
      subst (Adds prefix s) (good_is _ t g.2) (record {
        more = map text_of xs;
        printed = printed_both s.design.entries es ∙ ap (λ ks. printed_of s.design.entries ++ ks) p;
        news = fresh_new s.names (s.names ++ more) xs f.0;
        differ = texts_all_differ xs (All-weaker (IsFresh s.names (s.names ++ more)) (λ y. is_visible y ≡ true) (λ y i. i.visible) xs f.0) f.1;
        kept = λ x k. still_declared s.names more x k;
      })
