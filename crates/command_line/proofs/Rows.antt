-- Where a subcommand takes the words, a required number has one value, which passes.
use Rattle.std.proofs.Common.{◌≡◌, ◌∙◌, ℕ, suc, zero, Bool, true, false, not, ◌&&◌, ◌||◌, List, [], ◌∷◌, ◌++◌, drop, length, ◌==◌, Option, Some, None, refl, ap, sym, subst, arith, codes}
use Rattle.std.specs.Prelude.{if◌then◌else◌, find, fold, option_map, option_and_then, slice_get, unwrap_or, encode_utf8, is_some, IfSome}
use Rattle.std.specs.Option.{option_map_or}
use Rattle.std.specs.Str.{bytes_eq, chars}
use Rattle.std.proofs.lemmas.Bool.{false≢true}
use Rattle.std.proofs.lemmas.Bool.Decides.{nat_tests}
use Rattle.clap.specs.Lexer.{long_of, short_of}
use Rattle.clap.specs.Facts.{explicit_source}
use Rattle.clap.specs.Kinds.{Kinds, or_else, range_kinds}
use Rattle.clap.specs.declared.builder.value_parser.Reading.{Reading}
use Rattle.clap.specs.declared.parser.matches.ValueSource.{ValueSource}
use Rattle.clap.specs.declared.error.kind.ErrorKind.{ErrorKind}
use Rattle.clap.specs.declared.error.kind.ErrorKind.TheVariants as kind
use Rattle.clap.specs.Values.{read_as, reading_of}
use Rattle.clap.specs.declared.builder.value_parser.ValueParser.{ValueParser}
use Rattle.clap.specs.declared.builder.value_parser.ValueParser.TheVariants as vp
use Rattle.clap.specs.declared.parser.matches.ValueSource.TheVariants.{CommandLine}
use Rattle.command_line.specs.Cli.{required_rule}
use Rattle.clap.specs.ValueTests.{accepts}
use Rattle.clap.specs.Walk.{Held, Names, Outcome, done, waits, plain, refused, Row, Rule, Step, next, trailing, subcommand, value, Text, Waiting, idle, option, positional, Walk, after_flag, after_step, arg_by_id, arg_by_index, arg_by_long, arg_by_short, at_row, has_row, with_values, attached_value, bundle_met, bundle_step, is_pending, flag_met, long_met, long_or_other, nothing_held, one_of, option_met, option_word, plain_word, positional_held, pushed, reacted, more_values, row_text, rows_after, settled, settled_rows, short_met, short_or_plain, subcommand_met, subcommand_or_other, takes_several, takes_values, to_positional, used, used_by_id, values_or_missing, walk, walk_from, walked, walked_from, with_default, without, word_met}
use Rattle.clap.specs.Simple.{Shape, filled, help_rule, with_index}
use Rattle.clap.specs.Takes.{is_given}
use Rattle.clap.specs.Faults.{bundle_fault, bundle_step_fault, check_fault, defaults_fault, flag_word_fault, flags_fault, level_fault, long_fault, option_fault, other_fault, positional_fault, react_fault, settle_fault, set_fault, repeat_fault, short_fault, step_fault, stray_fault, turn_fault, use_fault, walk_fault, word_fault}

pub or_empty : (x y : Kinds) → or_else x y ≡ [] → (x ≡ []) × (y ≡ [])
or_empty [] y e = (refl, e)
or_empty (k ∷ ks) y e = cc

-- by a test
by_test : {A : Type 0} (P : A → Type 0) (b : Bool) (x y : A) (e g : Kinds) → (if b then e else g) ≡ [] → (e ≡ [] → P x) → (g ≡ [] → P y) → P (if b then x else y)
by_test P true x y e g none h k = h none
by_test P false x y e g none h k = k none

-- each of a list is so
abbrev pub Each : {A : Type 0} → (A → Type 0) → List A → Type 0
Each P [] = Unit {0}
Each P (x ∷ xs) = P x × Each P xs

pub found_each : {A : Type 0} (P : A → Type 0) (f : A → Bool) (xs : List A) → Each P xs → IfSome (find f xs) P
found_each P f [] h = tt
found_each P f (x ∷ xs) h = go (f x) (found_each P f xs h.1)
  where
    go : (b : Bool) → IfSome (find f xs) P → IfSome (if b then Some x else find f xs) P
    go true rest = h.0
    go false rest = rest

-- ---- the row of one argument

-- the rows with one more, where none has its id
fresh : (id : Text) (change : Row → List Row) (missing rows : List Row) → has_row id rows ≡ false → at_row id change missing rows ≡ rows ++ missing
fresh id change missing [] none = refl
fresh id change missing (r ∷ rs) none = go (bytes_eq r.id id) none (fresh id change missing rs)
  where
    go : (b : Bool) → (b || has_row id rs) ≡ false → (has_row id rs ≡ false → at_row id change missing rs ≡ rs ++ missing)
        → (if b then change r ++ rs else r ∷ at_row id change missing rs) ≡ (r ∷ rs) ++ missing
    go true e below = cc
    go false e below = ap (λ xs. r ∷ xs) (below e)

append_none : (rows : List Row) → rows ++ [] ≡ rows
append_none [] = refl
append_none (r ∷ rs) = ap (λ xs. r ∷ xs) (append_none rs)

-- a use that replaces nothing
use_fresh : (id : Text) (how : Reading) (s : ValueSource) (values : List Text) (rows : List Row) → has_row id rows ≡ false
    → with_values id how s values (without id rows) ≡ rows ++ record { id = id; values = values; count = None; source = Some s; reading = how } ∷ []
use_fresh id how s values rows none =
    ap (λ xs. with_values id how s values xs) (fresh id (λ _. []) [] rows none ∙ append_none rows) ∙ fresh id (more_values s values) _ rows none

repeat_none : (b : Bool) → (if b && not false then kind.ArgumentConflict ∷ [] else []) ≡ [] → b ≡ false
repeat_none true e = cc
repeat_none false e = refl

range_one : (values : List Text) → range_kinds 1 1 (length values) ≡ [] → (v : Text) × (values ≡ v ∷ [])
range_one [] e = cc
range_one (v ∷ []) e = (v, refl)
range_one (v ∷ w ∷ rest) e = absurd (bad (length rest) e)
  where
    bad : (n : ℕ) → range_kinds 1 1 (suc (suc n)) ≡ [] → ⊥
    bad n e =
        let some : (suc (suc n) == 0) ≡ false = grind (arith, nat_tests) in
        let more : (1 == suc (suc n)) ≡ false = grind (arith, nat_tests) in
        let two : kind.WrongNumberOfValues ∷ [] ≡ [] = sym (simp (some, more)) ∙ e in
        cc

value_fits : (b : Bool) (k : ErrorKind) → or_else (if b then [] else k ∷ []) [] ≡ [] → b ≡ true
value_fits true k e = refl
value_fits false k e = cc

module _ (id : Text) (how : Reading) (passes : Text → Bool) where
  -- the row has one value, which passes
  pub record IsOneValue (r : Row) : Type 0 where
    pub text : Text
    pub values : r.values ≡ text ∷ []
    pub reading : r.reading ≡ how
    pub passing : passes text ≡ true

  -- the argument's row is such a row, if it has one
  abbrev pub HasOne : List Row → Type 0
  HasOne rows = IfSome (find (λ r. bytes_eq r.id id) rows) IsOneValue

  grown : (new : Row) (rows : List Row) → (bytes_eq new.id id ≡ true → IsOneValue new) → HasOne rows → HasOne (rows ++ new ∷ [])
  grown new [] one h = go (bytes_eq new.id id) refl
    where
      go : (b : Bool) → bytes_eq new.id id ≡ b → IfSome (if b then Some new else None) IsOneValue
      go true e = one e
      go false e = tt
  grown new (r ∷ rs) one h = go (bytes_eq r.id id) h (grown new rs one)
    where
      go : (b : Bool) → IfSome (if b then Some r else find (λ x. bytes_eq x.id id) rs) IsOneValue → (HasOne rs → HasOne (rs ++ new ∷ []))
          → IfSome (if b then Some r else find (λ x. bytes_eq x.id id) (rs ++ new ∷ [])) IsOneValue
      go true h below = h
      go false h below = below h

  -- an argument whose uses keep it so
  pub record Keeps (a : Rule) : Type 0 where
    pub uses : (values : List Text) (rows : List Row) → HasOne rows → use_fault false a values rows ≡ [] → HasOne (used a values rows)
    pub default : (rows : List Row) → HasOne rows → HasOne (with_default rows a)

  -- ---- a walk over words in which no use fails

  module _ (c : List Rule) (keeps : Each Keeps c) where
    kept_of : (f : Rule → Bool) → IfSome (find f c) Keeps
    kept_of f = found_each Keeps f c keeps

    used_by : (o : Option Rule) (values : List Text) (rows : List Row) → IfSome o Keeps → HasOne rows
        → option_map_or (λ a. use_fault false a values rows) o [] ≡ [] → HasOne (used_by_id o values rows)
    used_by None values rows k h none = h
    used_by (Some a) values rows k h none = k.uses values rows h none

    pub settled_one : (h : Held) → HasOne h.rows → settle_fault c false h ≡ [] → HasOne (settled c h).rows
    settled_one h one none = go h.pending none
      where
        go : (p : Option (Text × List Text)) → option_map_or (λ p. option_map_or (λ a. use_fault false a p.1 h.rows) (arg_by_id c p.0) []) p [] ≡ [] → HasOne (settled_rows c p h.rows)
        go None none = one
        go (Some p) none = used_by (arg_by_id c p.0) p.1 h.rows (kept_of (λ a. bytes_eq a.id p.0)) one none

    reacted_one : (a : Rule) (values : List Text) (h : Held) → Keeps a → HasOne h.rows → react_fault c false a values h ≡ [] → HasOne (reacted c a values h).rows
    reacted_one a values h k one none =
        let (first, second) = or_empty (settle_fault c false h) _ none in
        k.uses values (settled c h).rows (settled_one h one first) second

    option_one : (a : Rule) (v : Option Text) (h : Held) → Keeps a → HasOne h.rows → option_fault c false a v h ≡ [] → HasOne (option_met c a v h).0.rows
    option_one a (Some v) h k one none = reacted_one a (v ∷ []) h k one none
    option_one a None h k one none = settled_one h one none

    flag_one : (a : Rule) (v : Option Text) (h : Held) → Keeps a → HasOne h.rows → (if is_some v then kind.TooManyValues ∷ [] else react_fault c false a [] h) ≡ []
        → HasOne (flag_met c a v h).0.rows
    flag_one a (Some v) h k one none = one
    flag_one a None h k one none = reacted_one a [] h k one none

    long_one : (o : Option Rule) (v : Option Text) (h : Held) → IfSome o Keeps → HasOne h.rows → long_fault c false o v h ≡ [] → HasOne (long_met c o v h).0.rows
    long_one None v h k one none = one
    long_one (Some a) v h k one none =
        by_test (λ (m : Held × Outcome). HasOne m.0.rows) (takes_values a) (option_met c a v h) (flag_met c a v h) _ _ none (option_one a v h k one) (flag_one a v h k one)

    short_one : (o : Option Rule) (rest : Text) (h : Held) (go : Held → Held × Outcome) (fault : Held → Kinds) → IfSome o Keeps → HasOne h.rows
        → ((g : Held) → HasOne g.rows → fault g ≡ [] → HasOne (go g).0.rows) → short_fault c false o rest h fault ≡ [] → HasOne (short_met c o rest h go).0.rows
    short_one None rest h go fault k one after none = one
    short_one (Some a) rest h go fault k one after none =
        by_test (λ (m : Held × Outcome). HasOne m.0.rows) (takes_values a) (option_met c a (attached_value rest) h) (go (reacted c a [] h)) _ _ none
        (option_one a (attached_value rest) h k one)
        (λ e. let (first, second) = or_empty (react_fault c false a [] h) _ e in after (reacted c a [] h) (reacted_one a [] h k one first) second)

    step_one : (x : Option ℕ) (flags : Text) (skip : ℕ) (so_far : Outcome) (h : Held) (go : Text → ℕ → Outcome → Held → Held × Outcome) (fault : Text → ℕ → Held → Kinds)
        → HasOne h.rows → ((flags : Text) (skip : ℕ) (so_far : Outcome) (g : Held) → HasOne g.rows → fault flags skip g ≡ [] → HasOne (go flags skip so_far g).0.rows)
        → bundle_step_fault c false x flags skip h fault ≡ [] → HasOne (bundle_step c x flags skip so_far h go).0.rows
    step_one None flags skip so_far h go fault one after none = one
    step_one (Some x) flags zero so_far h go fault one after none =
        let rest = drop (length (encode_utf8 x)) flags in
        short_one (arg_by_short c x) rest h (go rest 0 done) (fault rest 0) (kept_of _) one (after rest 0 done) none
    step_one (Some x) flags (suc skip) so_far h go fault one after none = after (drop (length (encode_utf8 x)) flags) skip so_far h one none

    bundle_one : (k : ℕ) (flags : Text) (skip : ℕ) (so_far : Outcome) (h : Held) → HasOne h.rows → flags_fault c false k flags skip h ≡ []
        → HasOne (bundle_met c k flags skip so_far h).0.rows
    unfolding flags_fault bundle_met
    bundle_one zero flags skip so_far h one none = one
    bundle_one (suc k) flags skip so_far h one none =
        step_one (slice_get (chars flags) 0) flags skip so_far h (bundle_met c k) (flags_fault c false k) one (bundle_one k) none

    option_rows : (o : Option Rule) (id : Text) (word : Text) (h : Held) → HasOne h.rows → HasOne (option_word o id word h).0.rows
    option_rows None id word h one = one
    option_rows (Some a) id word h one = one

    plain_one : (w : Waiting) (word : Text) (h : Held) → HasOne h.rows → HasOne (plain_word c w word h).0.rows
    plain_one idle word h one = one
    plain_one (option id) word h one = option_rows (arg_by_id c id) id word h one
    plain_one positional word h one = one

    after_one : (w : Waiting) (word : Text) (h : Held) (o : Outcome) → HasOne h.rows → HasOne (after_flag c w word h o).0.rows
    after_one w word h done one = one
    after_one w word h (waits id) one = one
    after_one w word h plain one = plain_one w word h one
    after_one w word h refused one = plain_one w word h one

    flag_word_one : (o : Option (Text × Option Text)) (w : Waiting) (word : Text) (h : Held) → HasOne h.rows → flag_word_fault c false o word h ≡ []
        → HasOne (long_or_other c w word o h).0.rows
    flag_word_one (Some p) w word h one none =
        after_one w word (long_met c (arg_by_long c p.0) p.1 h).0 (long_met c (arg_by_long c p.0) p.1 h).1 (long_one (arg_by_long c p.0) p.1 h (kept_of _) one none)
    flag_word_one None w word h one none = go (short_of word) none
      where
        go : (o : Option Text) → option_map_or (λ flags. bundle_fault c false flags h) o [] ≡ [] → HasOne (short_or_plain c w word o h).0.rows
        go None none = plain_one w word h one
        go (Some flags) none = after_one w word _ _ (bundle_one (length flags) flags h.skip plain (record h { skip = 0 }) one none)

    other_one : (s : Shape) → s.rules ≡ c → s.args_override_self ≡ false → (o : Option Text) (w : Waiting) (position : ℕ) (word : Text) (h : Held) → HasOne h.rows
        → other_fault s o word h ≡ [] → HasOne (subcommand_or_other c o w position word h).0.rows
    other_one s rules again (Some name) w position word h one none = one
    other_one s rules again None w position word h one none = go (bytes_eq word (45 ∷ 45 ∷ [])) none
      where
        go : (b : Bool) → (if b then [] else flag_word_fault s.rules s.args_override_self (long_of word) word h) ≡ []
            → HasOne (if b then (h, trailing position) else long_or_other c w word (long_of word) h).0.rows
        go true e = one
        go false e = flag_word_one (long_of word) w word h one
            (subst (λ (b : Bool). flag_word_fault c b (long_of word) word h ≡ []) again (subst (λ (r : List Rule). flag_word_fault r s.args_override_self (long_of word) word h ≡ []) rules e))

    word_one : (s : Shape) → s.rules ≡ c → s.args_override_self ≡ false → (names : Names) (is_trailing : Bool) (w : Waiting) (position : ℕ) (word : Text) (h : Held) → HasOne h.rows
        → word_fault s names is_trailing w word h ≡ [] → HasOne (word_met c names is_trailing w position word h).0.rows
    word_one s rules again names true w position word h one none = one
    word_one s rules again names false w position word h one none = other_one s rules again (subcommand_met names w word) w position word h one none

    positional_one : (a : Rule) (word : Text) (h : Held) → HasOne h.rows → positional_fault c false a h ≡ [] → HasOne (positional_held c a word h).rows
    positional_one a word h one none = go (is_pending a h.pending && takes_several a) none
      where
        go : (b : Bool) → (if b then [] else settle_fault c false h) ≡ [] → HasOne (pushed a.id word (if b then h else settled c h)).rows
        go true e = one
        go false e = settled_one h one e

    to_one : (o : Option Rule) (word : Text) (w : Walk) (h : Held) (stray : Kinds) → HasOne h.rows → option_map_or (λ a. positional_fault c false a h) o stray ≡ []
        → HasOne (to_positional c o word w h).held.rows
    to_one None word w h stray one none = one
    to_one (Some a) word w h stray one none = positional_one a word h one none

    after_step_one : (s : Shape) → s.rules ≡ c → s.args_override_self ≡ false → (word : Text) (w : Walk) (h : Held) (step : Step) → HasOne h.rows
        → step_fault s w.position h step ≡ [] → HasOne (after_step c word w h step).held.rows
    after_step_one s rules again word w h (next waiting) one none = one
    after_step_one s rules again word w h (trailing position) one none = one
    after_step_one s rules again word w h (subcommand name) one none = one
    after_step_one s rules again word w h value one none =
        to_one (arg_by_index c w.position) word w h _ one
        (subst (λ (b : Bool). option_map_or (λ a. positional_fault c b a h) (arg_by_index c w.position) (stray_fault s) ≡ []) again
        (subst (λ (r : List Rule). option_map_or (λ a. positional_fault r s.args_override_self a h) (arg_by_index r w.position) (stray_fault s) ≡ []) rules none))

    turned_one : (s : Shape) → s.rules ≡ c → s.args_override_self ≡ false → (names : Names) (w : Walk) (word : Text) → HasOne w.held.rows → turn_fault s names w word ≡ []
        → HasOne (walked c names w word).held.rows
    unfolding walked
    turned_one s rules again names w word one none = go w.stopped none
      where
        met : Held × Step
        met = word_met c names w.is_trailing w.waiting w.position word w.held

        same : word_met s.rules names w.is_trailing w.waiting w.position word w.held ≡ word_met c names w.is_trailing w.waiting w.position word w.held
        same = ap (λ (r : List Rule). word_met r names w.is_trailing w.waiting w.position word w.held) rules

        go : (o : Option (Text × List Text)) → (if is_some o then [] else or_else (word_fault s names w.is_trailing w.waiting word w.held)
            (step_fault s w.position (word_met s.rules names w.is_trailing w.waiting w.position word w.held).0 (word_met s.rules names w.is_trailing w.waiting w.position word w.held).1)) ≡ []
            → HasOne (walked_from c names o w word).held.rows
        go (Some p) e = one
        go None e =
            let (first, second) = or_empty (word_fault s names w.is_trailing w.waiting word w.held) _ e in
            after_step_one s rules again word w _ _ (word_one s rules again names w.is_trailing w.waiting w.position word w.held one first)
            (subst (λ (m : Held × Step). step_fault s w.position m.0 m.1 ≡ []) same second)

    walked_one : (s : Shape) → s.rules ≡ c → s.args_override_self ≡ false → (names : Names) (words : List Text) (w : Walk) → HasOne w.held.rows → walk_fault s names w words ≡ []
        → HasOne (fold (walked c names) w words).held.rows
    unfolding walk_fault
    walked_one s rules again names [] w one none = one
    walked_one s rules again names (word ∷ rest) w one none =
        let (first, second) = or_empty (turn_fault s names w word) _ none in
        walked_one s rules again names rest (walked c names w word) (turned_one s rules again names w word one first)
        (subst (λ (r : List Rule). walk_fault s names (walked r names w word) rest ≡ []) rules second)

    defaults_one : (rules : List Rule) → Each Keeps rules → (rows : List Row) → HasOne rows → HasOne (fold with_default rows rules)
    defaults_one [] k rows one = one
    defaults_one (a ∷ rest) k rows one = defaults_one rest k.1 (with_default rows a) (k.0.default rows one)

    given_row : (rows : List Row) → HasOne rows → is_given id rows ≡ true → (r : Row) × (find (λ r. bytes_eq r.id id) rows ≡ Some r) × IsOneValue r
    given_row rows one given = go (find (λ r. bytes_eq r.id id) rows) refl one given
      where
        go : (o : Option Row) → find (λ r. bytes_eq r.id id) rows ≡ o → IfSome o IsOneValue → option_map_or (λ r. explicit_source r.source) o false ≡ true
            → (r : Row) × (find (λ r. bytes_eq r.id id) rows ≡ Some r) × IsOneValue r
        go None e one given = cc
        go (Some r) e one given = (r, e, one)

    -- one level of the parse without a fault leaves one value, which passes, for the argument that it asks for
    pub level_one : (s : Shape) → s.rules ≡ c → s.args_override_self ≡ false → (words : List Text) → level_fault s [] nothing_held words false [] ≡ []
        → (check_fault s (rows_after s.rules [] words) false ≡ [] → is_given id (rows_after s.rules [] words) ≡ true)
        → (t : Text) × (one_of id (rows_after s.rules [] words) ≡ Some (read_as how t)) × (passes t ≡ true)
    level_one s rules again words none given =
        let end = (walk s.rules [] nothing_held words).held in
        let (first, after_walk) = or_empty (walk_fault s [] (walk_from nothing_held) words) _ none in
        let (settles, after_settle) = or_empty (settle_fault s.rules s.args_override_self end) _ after_walk in
        let checks = (or_empty (defaults_fault (settled s.rules end).rows s.rules) _ after_settle).1 in
        let walk_one : HasOne (walk c [] nothing_held words).held.rows = walked_one s rules again [] words (walk_from nothing_held) tt first in
        let settle_here : settle_fault c false (walk c [] nothing_held words).held ≡ []
        = subst (λ (b : Bool). settle_fault c b (walk c [] nothing_held words).held ≡ []) again
        (subst (λ (r : List Rule). settle_fault r s.args_override_self (walk r [] nothing_held words).held ≡ []) rules settles) in
        let whole : HasOne (rows_after c [] words) = defaults_one c keeps _ (settled_one (walk c [] nothing_held words).held walk_one settle_here) in
        let whole_here : HasOne (rows_after s.rules [] words) = subst (λ (r : List Rule). HasOne (rows_after r [] words)) (sym rules) whole in
        let (r, is, one) = given_row (rows_after s.rules [] words) whole_here (given checks) in
        (one.text, read r is one, one.passing)
      where
        read : (r : Row) → find (λ r. bytes_eq r.id id) (rows_after s.rules [] words) ≡ Some r → (one : IsOneValue r) → one_of id (rows_after s.rules [] words) ≡ Some (read_as how one.text)
        read r is one =
            ap (λ (o : Option Row). option_and_then row_text o) is
            ∙ ap (λ (vs : List Text). option_map (read_as r.reading) (slice_get vs 0)) one.values ∙ ap (λ (x : Reading). Some (read_as x one.text)) one.reading

-- ---- the arguments of the subcommands

-- an argument that takes one value
abbrev pub set_rule : Text → Option ValueParser → ℕ → Rule
set_rule id parser place = with_index place (filled (record (required_rule id) { parser = parser }))

abbrev parser_in : Option ValueParser → ValueParser
parser_in parser = unwrap_or parser vp.String

abbrev set_row : Text → Option ValueParser → Text → Row
set_row id parser text = record { id = id; values = text ∷ []; count = None; source = Some CommandLine; reading = reading_of (parser_in parser) }

-- a use without a fault adds a row with its value, which passes
set_adds : (id : Text) (parser : Option ValueParser) (place : ℕ) (values : List Text) (rows : List Row) → use_fault false (set_rule id parser place) values rows ≡ []
    → (text : Text) × (used (set_rule id parser place) values rows ≡ rows ++ set_row id parser text ∷ []) × (accepts false (parser_in parser) text ≡ true)
set_adds id parser place values rows none =
    let (one, rest) = or_empty (range_kinds 1 1 (length values)) _ none in
    let (text, is) = range_one values one in
    go text (subst (λ (vs : List Text). set_fault false (set_rule id parser place) (values_or_missing (set_rule id parser place) vs) rows ≡ []) is rest)
    (ap (λ (vs : List Text). used (set_rule id parser place) vs rows) is)
  where
    go : (text : Text) → set_fault false (set_rule id parser place) (text ∷ []) rows ≡ []
        → used (set_rule id parser place) values rows ≡ used (set_rule id parser place) (text ∷ []) rows
        → (text : Text) × (used (set_rule id parser place) values rows ≡ rows ++ set_row id parser text ∷ []) × (accepts false (parser_in parser) text ≡ true)
    go text rest same =
        let (new, passes) = or_empty (repeat_fault false id rows) _ rest in
        (text, same ∙ use_fresh id (reading_of (parser_in parser)) CommandLine (text ∷ []) rows (repeat_none (has_row id rows) new), value_fits (accepts false (parser_in parser) text) _ passes)

no_default : (P : List Row → Type 0) (b : Bool) (rows : List Row) → P rows → P (if b then rows else rows)
no_default P true rows h = h
no_default P false rows h = h

module _ (id : Text) (parser : Option ValueParser) where
  abbrev KeepsIt : Rule → Type 0
  KeepsIt = Keeps id (reading_of (parser_in parser)) (accepts false (parser_in parser))

  abbrev Fits : Row → Type 0
  Fits = IsOneValue id (reading_of (parser_in parser)) (accepts false (parser_in parser))

  abbrev Holds : List Row → Type 0
  Holds = HasOne id (reading_of (parser_in parser)) (accepts false (parser_in parser))

  pub own_keeps : (place : ℕ) → KeepsIt (set_rule id parser place)
  own_keeps place = record {
    uses = λ values rows one none. (
        let (text, is, passes) = set_adds id parser place values rows none in
        subst Holds (sym is) (grown id _ _ (set_row id parser text) rows (λ _. record { text = text; values = refl; reading = refl; passing = passes }) one)
        );
    default = λ rows one. no_default Holds (has_row id rows) rows one;
  }

  pub other_keeps : (other : Text) (of_other : Option ValueParser) (place : ℕ) → bytes_eq other id ≡ false → KeepsIt (set_rule other of_other place)
  other_keeps other of_other place apart = record {
    uses = λ values rows one none. (
        let (text, is, passes) = set_adds other of_other place values rows none in
        subst Holds (sym is) (grown id _ _ (set_row other of_other text) rows (λ e. absurd (false≢true (sym apart ∙ e))) one)
        );
    default = λ rows one. no_default Holds (has_row other rows) rows one;
  }

  pub help_keeps : (place : ℕ) → KeepsIt (with_index place (filled help_rule))
  help_keeps place = record { uses = λ values rows one none. one; default = λ rows one. no_default Holds (has_row (codes "help") rows) rows one }
