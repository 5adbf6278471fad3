-- What the search's tables tell of a design's wires.
use Rattle.std.proofs.Common.{◌≡◌, ◌⊎◌, inl, inr, ℕ, zero, suc, ◌+◌, ◌<◌, ◌≤◌, ◌==◌, Bool, true, false, cond, ◌&&◌, List, [], ◌∷◌, ◌++◌, length, map, drop, take, get_or, Option, Some, None, refl, sym, ap, ap₂, ◌∙◌, subst, rules, arith, eqb-true, slice_get}
use Rattle.std.specs.Prelude.{is_none, unwrap_or, filter, option_map, option_and_then}
use Rattle.std.specs.Option.{option_map_or}
use Rattle.std.specs.List.{Contains}
use Rattle.std.proofs.lemmas.Bool.{cases_lt}
use Rattle.std.proofs.lemmas.List.{append_assoc, drop_more}
use Rattle.std.proofs.lemmas.List.Elements.{Contains-append_left, Contains-push}
use Rattle.std.proofs.lemmas.Option.{slice_get-map, slice_get-get_or, slice_get_within, slice_get_past, get_or_from_slice_get}
use Rattle.cdc_base.specs.declared.signal.ResetPin.{ResetPin}
use Rattle.cdc_base.specs.declared.signal.Signal.{Signal}
use Rattle.driver_loops.specs.Links.{ends_of}
use Rattle.driver_loops.specs.Orders.{here, IsDepthFirst, IsOrderOf}
use Rattle.flat_form.specs.declared.flat.FlatAssign.{FlatAssign}
use Rattle.flat_form.specs.View.{expr_of}
use Rattle.flat_meaning.specs.Flat.{Expr, Target}
use Rattle.flat_unfolding.specs.Names.{Entry, inner, width_of, width_at}
use Rattle.flat_unfolding.specs.Design.{Design}
use Rattle.flat_names.specs.Designs.{signal_of}
use Rattle.reset_nets.specs.declared.drives.Drive.{Drive}
use Rattle.reset_nets.specs.declared.drives.Drive.TheVariants.{Nothing, Once, Otherwise}
use Rattle.reset_nets.specs.declared.nets.Wires.{Wires}
use Rattle.reset_nets.specs.Nets.{reads_of, goes_to, plain_value, a_declared, a_made, level_of, declared_level, made_by, IsResetNet, pin_if, further_pins, AreNets}
use Rattle.reset_nets.specs.Finding.{known_in, level_made, tried, drive_at, pair_of, value_of}
use Rattle.reset_nets.specs.Shown.{value_in, made_in, made_of, ShowsWires, ShowsLinks, Finds}
use Rattle.reset_nets.proofs.Search.{some-same, IsSettled, settle}
use Rattle.reset_nets.proofs.Marks.{told_value}

-- ---- what makes a signal

module _ (pins : List ResetPin) (d : Design) where
  level_there : (s : ℕ) → known_in (map (level_of pins) d.entries) s ≡ declared_level pins d s
  level_there s = ap (λ (o : Option (Option Bool)). option_and_then (λ q. q) o) (slice_get-map (level_of pins) d.entries s) ∙ go (slice_get d.entries s)
    where
      go : (o : Option Entry) → option_and_then (λ (q : Option Bool). q) (option_map (level_of pins) o) ≡ option_and_then (level_of pins) o
      go None = refl
      go (Some e) = refl

  -- a signal that isn't there is made by nothing
  pub made_past : (s : ℕ) → slice_get d.entries s ≡ None → made_by pins d s ≡ None
  made_past s e =
      ap (λ (o : Option Entry). cond ((option_map_or (λ (x : Entry). width_of x.range) o 0 == 1) && is_none (declared_level pins d s)) (plain_value (filter (goes_to s) d.assigns)) None) e

  made_there : (s : ℕ) (e : Entry) (v : Option Expr) → slice_get d.entries s ≡ Some e → plain_value (filter (goes_to s) d.assigns) ≡ v → made_by pins d s ≡ made_in (Some (signal_of e)) (declared_level pins d s) v
  made_there s e v at is =
      ap (λ (o : Option Entry). cond ((option_map_or (λ (x : Entry). width_of x.range) o 0 == 1) && is_none (declared_level pins d s)) (plain_value (filter (goes_to s) d.assigns)) None) at
      ∙ ap (λ (o : Option Expr). cond ((width_of e.range == 1) && is_none (declared_level pins d s)) o None) is

  -- a net is there
  pub net_within : (s : ℕ) (l : Bool) → IsResetNet pins d s l → s < length d.entries
  net_within s l (a_declared h) = go (slice_get d.entries s) refl h
    where
      go : (o : Option Entry) → slice_get d.entries s ≡ o → option_and_then (level_of pins) o ≡ Some l → s < length d.entries
      go None e h = absurd (search (rules, h))
      go (Some x) e h = slice_get_within d.entries s x e
  net_within s l (a_made e levels is some all differ same) = go (slice_get d.entries s) refl
    where
      go : (o : Option Entry) → slice_get d.entries s ≡ o → s < length d.entries
      go None f = absurd (search (rules, sym (made_past s f) ∙ is))
      go (Some x) f = slice_get_within d.entries s x f

  -- a declared reset is made by nothing
  pub declared_apart : (s : ℕ) (l : Bool) → declared_level pins d s ≡ Some l → made_by pins d s ≡ None
  declared_apart s l h = ap (λ (o : Option Bool). cond ((width_at d.entries s == 1) && is_none o) (plain_value (filter (goes_to s) d.assigns)) None) h ∙ go (width_at d.entries s == 1)
    where
      go : (b : Bool) → cond (b && false) (plain_value (filter (goes_to s) d.assigns)) None ≡ None
      go true = refl
      go false = refl

module _ (pins : List ResetPin) (w : Wires) (d : Design) (h : ShowsWires pins w d) where
  signal_there : (s : ℕ) → slice_get w.signals.now s ≡ option_map signal_of (slice_get d.entries s)
  signal_there s = ap (λ xs. slice_get xs s) h.signals ∙ slice_get-map signal_of d.entries s

  pub declared_there : (s : ℕ) → known_in w.declared.items s ≡ declared_level pins d s
  declared_there s = ap (λ ls. known_in ls s) h.declared ∙ level_there pins d s

  value_there : (x : Drive) → value_of d.assigns x ≡ value_in w.assigns.now x
  value_there Nothing = refl
  value_there (Once k) = sym (ap (λ (xs : List (Target × Expr)). option_map (λ (a : Target × Expr). a.1) (slice_get xs k)) h.assigns)
      ∙ ap (option_map (λ (a : Target × Expr). a.1)) (slice_get-map pair_of w.assigns.now k) ∙ go (slice_get w.assigns.now k)
    where
      go : (o : Option FlatAssign) → option_map (λ (a : Target × Expr). a.1) (option_map pair_of o) ≡ option_map (λ (a : FlatAssign). expr_of a.value) o
      go None = refl
      go (Some a) = refl
  value_there Otherwise = refl

  made_found : (s : ℕ) (x : Entry) → slice_get d.entries s ≡ Some x → (y : Drive) → slice_get w.drives.items s ≡ Some y → made_by pins d s ≡ made_of w s
  made_found s x e y at =
      made_there pins d s x (value_in w.assigns.now y) e (told_value d.assigns s y (h.drives s y at) ∙ value_there y)
      ∙ sym (ap (λ (z : Option Signal). made_in z (declared_level pins d s) (value_in w.assigns.now y)) (signal_there s ∙ ap (option_map signal_of) e))
      ∙ sym (ap₂ (λ (o : Option Bool) (z : Drive). made_in (slice_get w.signals.now s) o (value_in w.assigns.now z)) (declared_there s) (ap (λ (o : Option Drive). unwrap_or o Nothing) at))

  pub made_is : (s : ℕ) → made_by pins d s ≡ made_of w s
  made_is s = go (slice_get d.entries s) (slice_get w.drives.items s) refl refl
    where
      go : (o : Option Entry) (p : Option Drive) → slice_get d.entries s ≡ o → slice_get w.drives.items s ≡ p → made_by pins d s ≡ made_of w s
      go None p e f = made_past pins d s e
          ∙ sym (ap (λ (x : Option Signal). made_in x (known_in w.declared.items s) (value_in w.assigns.now (drive_at w.drives.items s))) (signal_there s ∙ ap (option_map signal_of) e))
      go (Some x) (Some y) e f = made_found s x e y f
      go (Some x) None e f =
          let l = slice_get_within d.entries s x e in let c = h.count in
          absurd (search (rules, sym f ∙ (slice_get-get_or w.drives.items s Nothing (omega (arith, l, c)))))

-- ---- links

module _ (pins : List ResetPin) (d : Design) where
  abbrev pub row : ℕ → List ℕ
  row s = option_map_or reads_of (made_by pins d s) []

  -- the links of the first signals
  pub record HasLinks (n : ℕ) (ls : List (List ℕ)) : Type 0 where
    pub count : length ls ≡ n
    pub ends : (s : ℕ) → s < n → ends_of ls s ≡ row s

  old_row : (ls : List (List ℕ)) (r : List ℕ) (s : ℕ) → s < length ls → ends_of (ls ++ r ∷ []) s ≡ ends_of ls s
  old_row [] r s l = absurd (omega (arith, l))
  old_row (x ∷ ls) r zero l = refl
  old_row (x ∷ ls) r (suc s) l = old_row ls r s (omega (arith, l))

  new_row : (ls : List (List ℕ)) (r : List ℕ) → ends_of (ls ++ r ∷ []) (length ls) ≡ r
  new_row [] r = refl
  new_row (x ∷ ls) r = new_row ls r

  longer : (ls : List (List ℕ)) (r : List ℕ) → length (ls ++ r ∷ []) ≡ length ls + 1
  longer [] r = refl
  longer (x ∷ ls) r = let e = longer ls r in omega (arith, e)

  pub more_links : (n : ℕ) (ls new : List (List ℕ)) → HasLinks n ls → new ≡ ls ++ row n ∷ [] → HasLinks (n + 1) new
  more_links n ls new h is = subst (HasLinks (n + 1)) (sym is) (record {
    count = longer ls (row n) ∙ ap (λ k. k + 1) h.count;
    ends = λ s l. go s l (cases_lt s n);
  })
    where
      go : (s : ℕ) → s < n + 1 → (s < n) ⊎ (n ≤ s) → ends_of (ls ++ row n ∷ []) s ≡ row s
      go s l (inl k) = let c = h.count in old_row ls (row n) s (omega (arith, k, c)) ∙ h.ends s k
      go s l (inr k) =
          let same : s ≡ n = omega (arith, l, k) in
          ap (ends_of (ls ++ row n ∷ [])) (same ∙ sym h.count) ∙ new_row ls (row n) ∙ ap row (sym same)

  -- the next signal's links
  pub next_links : (w : Wires) → ShowsWires pins w d → (n s : ℕ) (ls new : List (List ℕ)) → s ≡ n → HasLinks n ls → new ≡ ls ++ option_map_or reads_of (made_of w s) [] ∷ [] → HasLinks (n + 1) new
  next_links w shows n s ls new same h is =
      more_links n ls new h (is ∙ ap (λ (o : Option Expr). ls ++ option_map_or reads_of o [] ∷ []) (sym (made_is pins w d shows s) ∙ ap (made_by pins d) same))

  pub all_links : (n : ℕ) (ls : List (List ℕ)) → n ≡ length d.entries → HasLinks n ls → ShowsLinks pins d ls
  all_links n ls e h = record { count = h.count ∙ e; ends = λ s. go s (cases_lt s n) }
    where
      go : (s : ℕ) → (s < n) ⊎ (n ≤ s) → ends_of ls s ≡ row s
      go s (inl l) = h.ends s l
      go s (inr l) =
          let c = h.count in
          ap (λ (o : Option (List ℕ)). unwrap_or o []) (slice_get_past ls s (omega (arith, l, c)))
          ∙ sym (ap (λ (o : Option Expr). option_map_or reads_of o []) (made_past pins d s (slice_get_past d.entries s (omega (arith, l, e)))))

  -- ---- levels

  module _ (ls : List (List ℕ)) (k : ShowsLinks pins d ls) where
    within : (s : ℕ) (l : Bool) → IsResetNet pins d s l → s < length ls
    within s l n = let a = net_within pins d s l n in let c = k.count in omega (arith, a, c)

    abbrev Settled : List (Option Bool) → List ℕ → Type 0
    Settled levels vs = IsSettled (declared_level pins d) (made_by pins d) (declared_apart pins d) ls k.ends within (known_in levels) vs

    -- a signal was tried, by what is kept of it
    pub tried_found : (w : Wires) → ShowsWires pins w d → (v : ℕ) (levels next : List (Option Bool)) → length levels ≡ length d.entries → length next ≡ length levels
        → (ends_of ls v ≡ option_map_or reads_of (made_of w v) [] → (s : ℕ) → s < length levels → known_in next s ≡ tried (known_in levels) v (made_of w v) s)
        → (s : ℕ) → known_in next s ≡ tried (known_in levels) v (made_by pins d v) s
    tried_found w shows v levels next count same told s = go (cases_lt s (length levels))
      where
        is : made_by pins d v ≡ made_of w v
        is = made_is pins w d shows v

        past : length levels ≤ s → (o : Option Expr) → made_by pins d v ≡ o → known_in next s ≡ tried (known_in levels) v o s
        past l None e = ap (λ (o : Option (Option Bool)). option_and_then (λ q. q) o) (slice_get_past next s (omega (arith, l, same)) ∙ sym (slice_get_past levels s l))
        past l (Some x) e = go_on (v == s) refl
          where
            go_on : (b : Bool) → (v == s) ≡ b → known_in next s ≡ cond b (level_made (known_in levels) x) (known_in levels s)
            go_on false f = ap (λ (o : Option (Option Bool)). option_and_then (λ q. q) o) (slice_get_past next s (omega (arith, l, same)) ∙ sym (slice_get_past levels s l))
            go_on true f =
                let n : made_by pins d s ≡ None = made_past pins d s (slice_get_past d.entries s (omega (arith, l, count))) in
                absurd (search (rules, sym e ∙ ap (made_by pins d) (eqb-true v s f) ∙ n))

        go : (s < length levels) ⊎ (length levels ≤ s) → known_in next s ≡ tried (known_in levels) v (made_by pins d v) s
        go (inl l) = told (k.ends v ∙ ap (λ (o : Option Expr). option_map_or reads_of o []) is) s l ∙ ap (λ o. tried (known_in levels) v o s) (sym is)
        go (inr l) = past l (made_by pins d v) refl

    -- one signal more was tried
    pub more_found : (order : List ℕ) → IsDepthFirst ls order → (i v : ℕ) → slice_get order i ≡ Some v → (levels next : List (Option Bool)) → length next ≡ length levels
        → ((s : ℕ) → known_in next s ≡ tried (known_in levels) v (made_by pins d v) s) → Finds pins d (take i order) levels → Finds pins d (take (i + 1) order) next
    more_found order first i v at levels next same is h =
        let old : Settled levels (take i order) = record { right = h.right; given = h.given; found = h.found } in
        let new = settle (declared_level pins d) (made_by pins d) (declared_apart pins d) ls k.ends within order first i v at (known_in levels) (known_in next) is old in
        record { count = same ∙ h.count; right = new.right; given = new.given; found = new.found }

  -- the declared resets are known at first
  pub first_found : (levels : List (Option Bool)) → levels ≡ map (level_of pins) d.entries → Finds pins d [] levels
  first_found levels is = subst (Finds pins d []) (sym is) (record {
    count = as_many d.entries;
    right = λ s l e. a_declared (sym (level_there pins d s) ∙ e);
    given = λ s l e. level_there pins d s ∙ e;
    found = λ s l c n. let b = c.1 in absurd (omega (arith, b));
  })
    where
      as_many : (es : List Entry) → length (map (level_of pins) es) ≡ length es
      as_many [] = refl
      as_many (e ∷ es) = ap suc (as_many es)

  known_there : (levels : List (Option Bool)) (s : ℕ) (l : Bool) → known_in levels s ≡ Some l → slice_get levels s ≡ Some (Some l)
  known_there levels s l e = go (slice_get levels s) refl e
    where
      go : (o : Option (Option Bool)) → slice_get levels s ≡ o → option_and_then (λ (q : Option Bool). q) o ≡ Some l → slice_get levels s ≡ Some (Some l)
      go None f e = absurd (search (rules, e))
      go (Some q) f e = f ∙ ap Some e

  -- all nets are known in the end
  pub all_found : (ls : List (List ℕ)) → ShowsLinks pins d ls → (roots order : List ℕ) → ((s : ℕ) → s < length ls → Contains roots s) → IsOrderOf ls roots order
      → (levels : List (Option Bool)) → Finds pins d order levels → (nets : List ResetPin) → nets ≡ further_pins pins d.entries levels → AreNets pins d nets
  all_found ls k roots order all is levels h nets listed = record {
    levels = levels;
    size = h.count;
    exact = λ s l. (
      (λ e. h.right s l (ap (λ (o : Option (Option Bool)). option_and_then (λ q. q) o) e)),
      (λ n. known_there levels s l (h.found s l ((is.reached s).1 (let b = within ls k s l n in record { root = s; given = all s b; vertex = b; way = here })) n)),
    );
    listed = listed;
  }

-- the numbers up to a place
pub more_numbers : (xs : List ℕ) (k n : ℕ) (ys : List ℕ) → n ≡ k → ys ≡ xs ++ n ∷ [] → ((s : ℕ) → s < k → Contains xs s) → (s : ℕ) → s < k + 1 → Contains ys s
more_numbers xs k n ys e is h s l = subst (λ zs. Contains zs s) (sym is) (go (cases_lt s k))
  where
    go : (s < k) ⊎ (k ≤ s) → Contains (xs ++ n ∷ []) s
    go (inl m) = Contains-append_left xs (n ∷ []) s (h s m)
    go (inr m) = let same : n ≡ s = e ∙ (let q : k ≡ s = omega (arith, l, m) in q) in subst (λ z. Contains (xs ++ n ∷ []) z) same (Contains-push xs n)

-- one pin more, or none
more_pins : (pins nets new : List ResetPin) (es : List Entry) (ls : List (Option Bool)) (k : ℕ) (e : Entry) (l : Option Bool) (all : List ResetPin)
    → drop k es ≡ e ∷ drop (k + 1) es → drop k ls ≡ l ∷ drop (k + 1) ls → new ≡ nets ++ pin_if (level_of pins e) e l
    → nets ++ further_pins pins (drop k es) (drop k ls) ≡ all → new ++ further_pins pins (drop (k + 1) es) (drop (k + 1) ls) ≡ all
more_pins pins nets new es ls k e l all at level is h =
    ap (λ xs. xs ++ further_pins pins (drop (k + 1) es) (drop (k + 1) ls)) is
    ∙ append_assoc nets (pin_if (level_of pins e) e l) (further_pins pins (drop (k + 1) es) (drop (k + 1) ls))
    ∙ ap (λ xs. nets ++ xs) (sym (ap₂ (further_pins pins) at level)) ∙ h

module _ (pins : List ResetPin) (w : Wires) (d : Design) (h : ShowsWires pins w d) where
  pub signals_count : length w.signals.now ≡ length d.entries
  signals_count = ap length h.signals ∙ go d.entries
    where
      go : (es : List Entry) → length (map signal_of es) ≡ length es
      go [] = refl
      go (e ∷ es) = ap suc (go es)

  pub pins_step : (levels : List (Option Bool)) → length levels ≡ length d.entries → (k : ℕ) (x : Signal) → k < length w.signals.now → x ≡ get_or w.signals.now k x
      → (declared level : Option Bool) → declared ≡ known_in w.declared.items k → level ≡ known_in levels k → (nets new : List ResetPin)
      → ((e : Entry) → x ≡ signal_of e → new ≡ nets ++ pin_if declared e level) → (all : List ResetPin)
      → nets ++ further_pins pins (drop k d.entries) (drop k levels) ≡ all → new ++ further_pins pins (drop (k + 1) d.entries) (drop (k + 1) levels) ≡ all
  pins_step levels count k x l at declared level is told nets new added all rest = go (slice_get d.entries k) refl
    where
      go : (o : Option Entry) → slice_get d.entries k ≡ o → new ++ further_pins pins (drop (k + 1) d.entries) (drop (k + 1) levels) ≡ all
      go None e =
          let n = signals_count in
          absurd (search (rules, sym e ∙ slice_get-get_or d.entries k (record { own = []; printed = []; place = x.place; range = None; is_reg = false; direction = inner; is_open = false; is_top_input = false; reset = None }) (omega (arith, l, n))))
      go (Some y) e =
          let n = signals_count in
          let here_is : x ≡ signal_of y = at ∙ some-same (get_or w.signals.now k x) (signal_of y) (sym (slice_get-get_or w.signals.now k x l) ∙ signal_there pins w d h k ∙ ap (option_map signal_of) e) in
          let in_entries : k < length d.entries = omega (arith, l, n) in
          let in_levels : k < length levels = omega (arith, l, n, count) in
          let own : declared ≡ level_of pins y = is ∙ declared_there pins w d h k ∙ ap (option_and_then (level_of pins)) e in
          let kept : level ≡ get_or levels k None = told ∙ ap (λ (o : Option (Option Bool)). option_and_then (λ q. q) o) (slice_get-get_or levels k None in_levels) in
          more_pins pins nets new d.entries levels k y level all
          (drop_more d.entries k y in_entries ∙ ap (λ (z : Entry). z ∷ drop (k + 1) d.entries) (get_or_from_slice_get d.entries k y y e))
          (drop_more levels k None in_levels ∙ ap (λ (z : Option Bool). z ∷ drop (k + 1) levels) (sym kept))
          (added y here_is ∙ ap (λ (o : Option Bool). nets ++ pin_if o y level) own) rest
