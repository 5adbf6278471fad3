-- Where the command takes the words, they name one of its subcommands, whose numbers are there and in their ranges.
use Rattle.std.proofs.Common.{◌≡◌, ◌∙◌, ◌≤◌, ℕ, Bool, true, false, not, ◌&&◌, ◌||◌, List, [], ◌∷◌, Option, Some, None, refl, ap, subst, inl, inr, codes, sym}
use Rattle.std.specs.Prelude.{is_some, option_map, find, unwrap_or, pos, IfSome}
use Rattle.std.specs.List.{list_any}
use Rattle.std.specs.Option.{option_map_or}
use Rattle.std.specs.Prelude.{Box}
use Rattle.std.specs.Box.{box_value}
use Rattle.std.specs.Str.{bytes_eq}
use Rattle.std.proofs.lemmas.Bool.{false≢true}
use Rattle.std.specs.Str.Parse.{digits_value, IsNumeral, without_leading_plus}
use Rattle.std.specs.declared.alloc.Global.{Global}
use Rattle.clap.specs.Kinds.{check_kinds}
use Rattle.clap.specs.Lexer.{without_minus}
use Rattle.clap.specs.Facts.{explicit_source}
use Rattle.clap.specs.Values.{read_as}
use Rattle.clap.specs.ValueTests.{accepts}
use Rattle.clap.specs.Walk.{Held, Row, Text, answers_to, nothing_held, one_of, rows_after, walk, walk_from, settled, finished}
use Rattle.clap.specs.Simple.{App, Shape, built, entered, label_of, names_of, rows_at, argument_words, subcommand_of, built_leaf, inherited, on_top, with_leaf_noted, marked_built}
use Rattle.clap.specs.Takes.{is_given}
use Rattle.clap.specs.Faults.{built_fault, check_fault, fault_of, walk_fault, entered_fault, level_fault, settle_fault, defaults_fault}
use Rattle.clap.specs.Words.{subcommand_rows, subcommand_rows_of}
use Rattle.clap.specs.Matches.{subcommand_name_of}
use Rattle.clap.specs.declared.builder.value_parser.Reading.TheVariants as reading
use Rattle.clap.specs.declared.builder.value_parser.ValueParser.{ValueParser}
use Rattle.clap.specs.declared.builder.value_parser.ValueParser.TheVariants as vp
use Rattle.clap.specs.declared.parser.matches.ArgMatches.{ArgMatches}
use Rattle.clap.specs.declared.parser.matches.ArgMatches.TheViews.{out-ArgMatches, out-SubCommand}
use Rattle.clap.specs.declared.parser.matches.SubCommand.{SubCommand}
use Rattle.clap.proofs.ValueTestLemmas.{accepts-Accepts}
use Rattle.command_line.specs.Cli.{cli, HasNumber, IsCommand, IsTaken, digits_of, audit_app, replay_app, selftest_app, certify_app, check_app, campaign_app}
use Rattle.command_line.proofs.Numbers.{written}
use Rattle.command_line.proofs.Rows.{Each, found_each, help_keeps, level_one, or_empty, other_keeps, own_keeps}

checked_by : (b x r y : Bool) → r ≡ true → check_kinds (not b && x) (not b && r) y ≡ [] → b ≡ true
checked_by true x r y required e = refl
checked_by false true r y required e = cc
checked_by false false true y required e = cc
checked_by false false false y required e = cc

checked : (s : Shape) (rows : List Row) (b : Bool) → s.subcommand_required ≡ true → check_fault s rows b ≡ [] → b ≡ true
checked s rows b required e = checked_by b (s.arg_required_else_help && not (list_any (λ r. explicit_source r.source) rows)) s.subcommand_required
    (not (s.subcommand_negates_reqs && b) && list_any (λ a. a.required && not (is_given a.id rows)) s.rules) required e

pub has_subcommand : (a : App) (h : Held) (ws : List Text) → a.top.subcommand_required ≡ true → built_fault a h ws ≡ []
    → is_some (entered a (walk a.top.rules (names_of a) h ws).stopped) ≡ true
has_subcommand a h ws required e =
    let end = walk a.top.rules (names_of a) h ws in
    let rest = (or_empty (walk_fault a.top (names_of a) (walk_from h) ws) _ e).1 in
    let below = (or_empty (entered_fault a end.stopped) _ rest).1 in
    let settled_here = (or_empty (settle_fault a.top.rules a.top.args_override_self end.held) _ below).1 in
    let checks = (or_empty (defaults_fault (settled a.top.rules end.held).rows a.top.rules) _ settled_here).1 in
    checked a.top (finished a.top.rules end.held) _ required checks

abbrev pub IsTakenOne : Option (Text × List Row) → Type 0
IsTakenOne None = ⊥
IsTakenOne (Some p) = IsTaken p.0 p.1

-- a subcommand, as building leaves it
abbrev sub : App → Shape
sub a = built_leaf (inherited (on_top with_leaf_noted (on_top marked_built cli)).top a.top)

-- where the subcommand takes the words, it is taken
abbrev TakesOwn : Shape → Type 0
TakesOwn s = (ws : List Text) → level_fault s [] nothing_held ws false [] ≡ [] → IsTaken s.name (rows_after s.rules [] ws)

wanted_given : (s : Shape) (rows : List Row) → s.subcommand_negates_reqs ≡ false → check_fault s rows false ≡ [] → list_any (λ a. a.required && not (is_given a.id rows)) s.rules ≡ false
wanted_given s rows always e =
    go (s.arg_required_else_help && not (list_any (λ r. explicit_source r.source) rows)) s.subcommand_required s.subcommand_negates_reqs _ always e
  where
    go : (x y z w : Bool) → z ≡ false → check_kinds (not false && x) (not false && y) (not (z && false) && w) ≡ [] → w ≡ false
    go true y z w none e = cc
    go false true z w none e = cc
    go false false true w none e = cc
    go false false false true none e = cc
    go false false false false none e = refl

-- none of a list passes
each_fails : {A : Type 0} (p : A → Bool) (xs : List A) → list_any p xs ≡ false → Each (λ x. p x ≡ false) xs
each_fails p [] e = tt
each_fails p (x ∷ xs) e = go (p x) refl e (each_fails p xs)
  where
    go : (b : Bool) → p x ≡ b → (b || list_any p xs) ≡ false → (list_any p xs ≡ false → Each (λ x. p x ≡ false) xs) → (p x ≡ false) × Each (λ x. p x ≡ false) xs
    go true is e rest = cc
    go false is e rest = (is, rest e)

given : (b : Bool) → not b ≡ false → b ≡ true
given true e = refl
given false e = cc

-- each argument that must be there is given
all_given : (s : Shape) (rows : List Row) → s.subcommand_negates_reqs ≡ false → check_fault s rows false ≡ [] → Each (λ a. (a.required && not (is_given a.id rows)) ≡ false) s.rules
all_given s rows always e = each_fails (λ a. a.required && not (is_given a.id rows)) s.rules (wanted_given s rows always e)

other_name : (x y : Text) → bytes_eq x x ≡ true → bytes_eq x y ≡ false → x ≡ y → ⊥
other_name x y same apart e = false≢true (sym apart ∙ ap (λ (t : Text). bytes_eq x t) (sym e) ∙ same)

is_there : (o : Option Text) (t : Text) → o ≡ Some t → is_some o ≡ true
is_there o t e = ap (λ (x : Option Text). is_some x) e

-- the number of an argument whose value passed
number_there : (low high : ℕ) (id : Text) (rows : List Row) (t : Text) → one_of id rows ≡ Some (read_as reading.WithoutMinus t) → accepts false (vp.Signed (pos low) (pos high)) t ≡ true
    → HasNumber low high id rows
number_there low high id rows t is passes =
    let w = written low high t (accepts-Accepts false (vp.Signed (pos low) (pos high)) t passes) in
    let digits : without_leading_plus (without_minus t) ≡ digits_of id rows = sym (ap (λ (o : Option Text). without_leading_plus (unwrap_or o [])) is) in
    record {
      there = is_there (one_of id rows) _ is;
      numeral = subst (IsNumeral 10) digits w.numeral;
      least = subst (λ (ds : Text). low ≤ digits_value 10 ds) digits w.least;
      most = subst (λ (ds : Text). digits_value 10 ds ≤ high) digits w.most;
    }

-- a subcommand that has no number
numberless : (name : Text) (rows : List Row) → IsCommand name → bytes_eq name name ≡ true → bytes_eq name (codes "selftest") ≡ false → bytes_eq name (codes "campaign") ≡ false → IsTaken name rows
numberless name rows command same no_test no_campaign = record {
  command = command;
  channels = λ e. absurd (other_name name (codes "selftest") same no_test e);
  steps = λ e. absurd (other_name name (codes "campaign") same no_campaign e);
  seed = λ e. absurd (other_name name (codes "campaign") same no_campaign e);
}

audit_takes : TakesOwn (sub audit_app)
audit_takes ws none = numberless (codes "audit") (rows_after (sub audit_app).rules [] ws) (inl refl) refl refl refl

replay_takes : TakesOwn (sub replay_app)
replay_takes ws none = numberless (codes "replay") (rows_after (sub replay_app).rules [] ws) (inr (inl refl)) refl refl refl

certify_takes : TakesOwn (sub certify_app)
certify_takes ws none = numberless (codes "certify") (rows_after (sub certify_app).rules [] ws) (inr (inr (inr (inl refl)))) refl refl refl

check_takes : TakesOwn (sub check_app)
check_takes ws none = numberless (codes "check") (rows_after (sub check_app).rules [] ws) (inr (inr (inr (inr (inl refl))))) refl refl refl

abbrev channels_parser : Option ValueParser
channels_parser = Some (vp.Signed (pos 1) (pos 10000))

abbrev seed_parser : Option ValueParser
seed_parser = Some (vp.Signed (pos 0) (pos 4294967295))

selftest_takes : TakesOwn (sub selftest_app)
selftest_takes ws none =
    let (t, is, passes) = level_one (codes "N") reading.WithoutMinus (accepts false (vp.Signed (pos 1) (pos 10000))) (sub selftest_app).rules
    (own_keeps (codes "N") channels_parser 1, (help_keeps (codes "N") channels_parser 2, tt)) (sub selftest_app) refl refl ws none
    (λ e. given (is_given (codes "N") (rows_after (sub selftest_app).rules [] ws)) (all_given (sub selftest_app) (rows_after (sub selftest_app).rules [] ws) refl e).0) in
    record {
      command = inr (inr (inl refl));
      channels = λ e. number_there 1 10000 (codes "N") (rows_after (sub selftest_app).rules [] ws) t is passes;
      steps = λ e. absurd (other_name (codes "selftest") (codes "campaign") refl refl e);
      seed = λ e. absurd (other_name (codes "selftest") (codes "campaign") refl refl e);
    }

campaign_steps : (ws : List Text) → level_fault (sub campaign_app) [] nothing_held ws false [] ≡ [] → HasNumber 1 10000 (codes "STEPS") (rows_after (sub campaign_app).rules [] ws)
campaign_steps ws none =
    let id = codes "STEPS" in
    let (t, is, passes) = level_one id reading.WithoutMinus (accepts false (vp.Signed (pos 1) (pos 10000))) (sub campaign_app).rules (
      own_keeps id channels_parser 1,
      (
        other_keeps id channels_parser (codes "SEED") seed_parser 2 refl,
        (
          other_keeps id channels_parser (codes "NET") None 3 refl,
          (other_keeps id channels_parser (codes "CON") None 4 refl, (help_keeps id channels_parser 5, tt)),
        ),
      ),
    ) (sub campaign_app) refl refl ws none
    (λ e. given (is_given id (rows_after (sub campaign_app).rules [] ws)) (all_given (sub campaign_app) (rows_after (sub campaign_app).rules [] ws) refl e).0) in
    number_there 1 10000 id (rows_after (sub campaign_app).rules [] ws) t is passes

campaign_seed : (ws : List Text) → level_fault (sub campaign_app) [] nothing_held ws false [] ≡ [] → HasNumber 0 4294967295 (codes "SEED") (rows_after (sub campaign_app).rules [] ws)
campaign_seed ws none =
    let id = codes "SEED" in
    let (t, is, passes) = level_one id reading.WithoutMinus (accepts false (vp.Signed (pos 0) (pos 4294967295))) (sub campaign_app).rules (
      other_keeps id seed_parser (codes "STEPS") channels_parser 1 refl,
      (
        own_keeps id seed_parser 2,
        (
          other_keeps id seed_parser (codes "NET") None 3 refl,
          (other_keeps id seed_parser (codes "CON") None 4 refl, (help_keeps id seed_parser 5, tt)),
        ),
      ),
    ) (sub campaign_app) refl refl ws none
    (λ e. given (is_given id (rows_after (sub campaign_app).rules [] ws)) (all_given (sub campaign_app) (rows_after (sub campaign_app).rules [] ws) refl e).1.0) in
    number_there 0 4294967295 id (rows_after (sub campaign_app).rules [] ws) t is passes

campaign_takes : TakesOwn (sub campaign_app)
campaign_takes ws none = record {
  command = inr (inr (inr (inr (inr refl))));
  channels = λ e. absurd (other_name (codes "campaign") (codes "selftest") refl refl e);
  steps = λ e. campaign_steps ws none;
  seed = λ e. campaign_seed ws none;
}

all_take : Each TakesOwn (built cli).subs
all_take = (audit_takes, (replay_takes, (selftest_takes, (certify_takes, (check_takes, (campaign_takes, tt))))))

entered_one : (stop : Option (Text × List Text)) → is_some (entered (built cli) stop) ≡ true → entered_fault (built cli) stop ≡ [] → IsTakenOne (entered (built cli) stop)
entered_one None e none = cc
entered_one (Some p) e none = go (find (λ s. answers_to p.0 (label_of s)) (built cli).subs) (found_each TakesOwn (λ s. answers_to p.0 (label_of s)) (built cli).subs all_take) e none
  where
    go : (o : Option Shape) → IfSome o TakesOwn → is_some (option_map (λ s. rows_at s p.1) o) ≡ true → option_map_or (λ s. level_fault s [] nothing_held p.1 false []) o [] ≡ []
        → IsTakenOne (option_map (λ s. rows_at s p.1) o)
    go None takes e none = cc
    go (Some s) takes e none = takes p.1 none

below_none : (a : App) (h : Held) (ws : List Text) → built_fault a h ws ≡ [] → entered_fault a (walk a.top.rules (names_of a) h ws).stopped ≡ []
below_none a h ws e =
    let end = walk a.top.rules (names_of a) h ws in
    (or_empty (entered_fault a end.stopped) _ (or_empty (walk_fault a.top (names_of a) (walk_from h) ws) _ e).1).0

pub taken : (ws : List Text) → fault_of cli ws ≡ [] → IsTakenOne (subcommand_of cli ws)
taken ws e =
    entered_one (walk (built cli).top.rules (names_of (built cli)) nothing_held (argument_words cli ws)).stopped
    (has_subcommand (built cli) nothing_held (argument_words cli ws) refl e) (below_none (built cli) nothing_held (argument_words cli ws) e)

-- the name and the rows of the subcommand that the parse met
pub rows_named : (m : ArgMatches) (n : Text) (r : List Row) → Some n ≡ subcommand_name_of m
    → Some r ≡ option_map (λ p. p.1) (subcommand_rows (out-ArgMatches m).subcommand) → subcommand_rows_of m ≡ Some (n, r)
rows_named m n r = go (out-ArgMatches m).subcommand
  where
    go : (o : Option (Box SubCommand Global)) → Some n ≡ option_map (λ b. (out-SubCommand (box_value b)).name.now) o
        → Some r ≡ option_map (λ p. p.1) (subcommand_rows o) → subcommand_rows o ≡ Some (n, r)
    go None e f = cc
    go (Some b) e f = cc

pub no_command : (o : Option (Text × List Row)) → None ≡ option_map (λ p. p.1) o → IsTakenOne o → ⊥
no_command None e h = h
no_command (Some p) e h = cc
