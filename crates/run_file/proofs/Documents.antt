-- A record's document names each start value, each input and each racing bit once.
use Rattle.std.proofs.Common.{◌≡◌, ◌≢◌, ◌∙◌, ℕ, ◌||◌, Bool, true, false, List, [], ◌∷◌, ◌++◌, map, Option, Some, None, Result, Ok, Err, Contains, refl, sym, ap, subst, arith, rules}
use Rattle.std.specs.Prelude.{IfOk, codes, option_and_then, if◌then◌else◌}
use Rattle.std.specs.List.{AllByRecursion, list_any}
use Rattle.std.specs.Str.{bytes_eq}
use Rattle.std.proofs.lemmas.List.Elements.{Contains-append_left, Contains-append_right}
use Rattle.std.proofs.lemmas.List.Folds.{list_any-from_Any}
use Rattle.std.proofs.lemmas.Slice.Eq.{bytes_eq-Decides}
use Rattle.cdc_base.specs.declared.fault.Fault.{Fault}
use Rattle.cdc_base.specs.declared.fault.Stop.{Stop}
use Rattle.cell_graph.specs.declared.net.Net.{Net}
use Rattle.clock_constraints.specs.Refusals.{Gives, Text, ◌>>=◌, unless}
use Rattle.domains.specs.declared.Domains.{Domains}
use Rattle.domains.specs.Nets.{IsNet}
use Rattle.cdc_model.specs.declared.record.Record.{Record}
use Rattle.json.specs.Json as json
use Rattle.json.specs.Lex.{tokens}
use Rattle.serde_json.specs.Data.{Data, null, boolean, number, string, array, object, Items, no_items, item, Members, no_members, member}
use Rattle.serde_json.specs.Find.{get, as_array, as_object, as_number, as_u64}
use Rattle.serde_json.specs.Read.{max_depth, of_json, read}
use Rattle.run_file.specs.declared.document.Document.{Document}
use Rattle.run_file.specs.declared.document.Entry.{Entry}
use Rattle.run_file.specs.declared.document.RaceEntry.{RaceEntry}
use Rattle.run_file.specs.declared.document.StepEntry.{StepEntry}
use Rattle.run_file.specs.Files.{FitsNet, IsMeaning, IsTree, named, record_of}
use Rattle.run_file.specs.Shapes as shapes
use Rattle.run_file.specs.Shapes.{distinct, document, is_again, races_of, repeated, steps, steps_of}
use Rattle.run_file.specs.Values.{entries, entries_of, entry, known_in, shaped, texts_at, wrong_shape}
use Rattle.run_file.proofs.Fitting.{Differ, StandsOnce, bind_ok, record_fits, required_ok}
use Rattle.run_file.proofs.Keys.{AllBehind, Ascend, AreOrdered, IsOrdered, and_then_some, behind_differs, got_ordered, read_ordered}

none_broken : {A : Type 0} (o : Option Fault) (r : Result A Fault) (x : A) → unless o r ≡ Ok x → (o ≡ None) × (r ≡ Ok x)
none_broken None r x e = (refl, e)
none_broken (Some f) r x e = cc

-- ---- the entries of an object

abbrev name_of : Entry → Text
name_of e = e.name

entry_name : (k : Text) (d : Data) (e : Entry) → entry k d ≡ Ok e → k ≡ e.name
entry_name k d e h = let (n, read, whole) = bind_ok (shaped (option_and_then as_u64 (as_number d))) (λ n. Ok (record { name = k; value = n })) e h in
    let made : Entry = record { name = k; value = n } in
    let same : made ≡ e = cc in
    ap name_of same

entries_behind : (k : Text) (ms : Members) (es : List Entry) → AllBehind k ms → entries_of ms ≡ Ok es → AllByRecursion (λ e. k ≢ name_of e) es
entries_behind k no_members es h f = let s : [] ≡ es = cc in subst (AllByRecursion (λ e. k ≢ name_of e)) s tt
entries_behind k (member l d ms) es h f =
    let (e, first, rest) = bind_ok (entry l d) (λ e. entries_of ms >>= (λ xs. Ok (e ∷ xs))) es f in
    let (xs, others, whole) = bind_ok (entries_of ms) (λ xs. Ok (e ∷ xs)) es rest in
    let s : e ∷ xs ≡ es = cc in
    subst (AllByRecursion (λ e. k ≢ name_of e)) s ((λ same. behind_differs k l h.0 (same ∙ sym (entry_name l d e first))), entries_behind k ms xs h.1 others)

entries_differ : (ms : Members) (es : List Entry) → Ascend ms → entries_of ms ≡ Ok es → Differ name_of es
entries_differ no_members es h f = let s : [] ≡ es = cc in subst (Differ name_of) s tt
entries_differ (member l d ms) es h f =
    let (e, first, rest) = bind_ok (entry l d) (λ e. entries_of ms >>= (λ xs. Ok (e ∷ xs))) es f in
    let (xs, others, whole) = bind_ok (entries_of ms) (λ xs. Ok (e ∷ xs)) es rest in
    let s : e ∷ xs ≡ es = cc in
    subst (Differ name_of) s
    (subst (λ (t : Text). AllByRecursion (λ (u : Entry). t ≢ name_of u) xs) (entry_name l d e first) (entries_behind l ms xs h.0 others), entries_differ ms xs h.1 others)

object_is : (d : Data) (ms : Members) → as_object d ≡ Some ms → d ≡ object ms
object_is null ms e = cc
object_is (boolean b) ms e = cc
object_is (number n) ms e = cc
object_is (string s) ms e = cc
object_is (array ds) ms e = cc
object_is (object ns) ms e = let s : ns ≡ ms = cc in ap object s

array_is : (d : Data) (ds : Items) → as_array d ≡ Some ds → d ≡ array ds
array_is null ds e = cc
array_is (boolean b) ds e = cc
array_is (number n) ds e = cc
array_is (string s) ds e = cc
array_is (array es) ds e = let s : es ≡ ds = cc in ap array s
array_is (object ms) ds e = cc

some_entries : (o : Option Data) (es : List Entry) → ((d : Data) → o ≡ Some d → IsOrdered d) → entries o ≡ Ok es → Differ name_of es
some_entries None es h f = let s : [] ≡ es = cc in subst (Differ name_of) s tt
some_entries (Some d) es h f =
    let (ms, there, all) = bind_ok (shaped (as_object d)) entries_of es f in
    let ordered : IsOrdered (object ms) = subst IsOrdered (object_is d ms (required_ok 502 [] (as_object d) ms there)) (h d refl) in
    entries_differ ms es ordered.0 all

-- ---- races

abbrev racing : RaceEntry → Text
racing r = r.bit

bytes_same : (t : Text) → bytes_eq t t ≡ true
bytes_same t = search (rules, bytes_eq-Decides)

not_among : (t x : Text) (us : List Text) → list_any (bytes_eq t) us ≡ false → Contains us x → x ≢ t
not_among t x us h i same = both (sym h ∙ list_any-from_Any (bytes_eq t) us (i.0, x, i.1, i.2, subst (λ (u : Text). bytes_eq t u ≡ true) (sym same) (bytes_same t)))
  where
    both : false ≡ true → ⊥
    both f = cc

neither : (x y : Bool) → (x || y) ≡ false → (x ≡ false) × (y ≡ false)
neither true y e = cc
neither false y e = (refl, e)

-- what came before doesn't come again
not_again : (before : List Text) (rs : List RaceEntry) (x : Text) → is_again before (map racing rs) ≡ false → Contains before x → AllByRecursion (λ r. x ≢ racing r) rs
not_again before [] x h i = tt
not_again before (r ∷ rs) x h i =
    let (here, rest) = neither (list_any (bytes_eq (racing r)) before) (is_again (before ++ racing r ∷ []) (map racing rs)) h in
    (not_among (racing r) x before here i, not_again (before ++ racing r ∷ []) rs x rest (Contains-append_left before (racing r ∷ []) x i))

races_differ : (before : List Text) (rs : List RaceEntry) → is_again before (map racing rs) ≡ false → Differ racing rs
races_differ before [] h = tt
races_differ before (r ∷ rs) h =
    let (here, rest) = neither (list_any (bytes_eq (racing r)) before) (is_again (before ++ racing r ∷ []) (map racing rs)) h in
    (not_again (before ++ racing r ∷ []) rs (racing r) rest (Contains-append_right before (racing r ∷ []) (racing r) (0, omega arith, refl)), races_differ (before ++ racing r ∷ []) rs rest)

abbrev all_races : List RaceEntry → Result (List RaceEntry) Fault
all_races rs = Ok rs

distinct_differ : (rs qs : List RaceEntry) → distinct rs ≡ Ok qs → Differ racing qs
distinct_differ rs qs h = go (is_again [] (map racing rs)) refl (none_broken (repeated rs) (all_races rs) qs h)
  where
    go : (v : Bool) → is_again [] (map racing rs) ≡ v → (repeated rs ≡ None) × (all_races rs ≡ Ok qs) → Differ racing qs
    go false e f = let s : rs ≡ qs = cc in subst (Differ racing) s (races_differ [] rs e)
    go true e f = let g : repeated rs ≡ Some wrong_shape = ap (λ (v : Bool). if v then Some wrong_shape else None) e in let k : Some wrong_shape ≡ None = sym g ∙ f.0 in cc

some_races : (o : Option Data) (rs : List RaceEntry) → shapes.races o ≡ Ok rs → Differ racing rs
some_races None rs h = let s : [] ≡ rs = cc in subst (Differ racing) s tt
some_races (Some d) rs h =
    let (all, there, once) = bind_ok (shaped (as_array d) >>= races_of) distinct rs h in
    distinct_differ all rs once

-- ---- steps

step_once : (d : Data) (s : StepEntry) → IsOrdered d → shapes.step d ≡ Ok s → StandsOnce s
step_once d s o h =
    let read = (none_broken (known_in (codes "edges" ∷ codes "inputs" ∷ codes "races" ∷ []) (as_object d)) (texts_at (codes "edges") d >>= behind) s h).1 in
    let (edges, first, rest) = bind_ok (texts_at (codes "edges") d) behind s read in
    let (inputs, second, more) = bind_ok (entries (get (codes "inputs") d)) (behind_inputs edges) s rest in
    let (races, third, whole) = bind_ok (shapes.races (get (codes "races") d)) (made edges inputs) s more in
    let one : StepEntry = record { edges = edges; inputs = inputs; races = races } in
    let same : one ≡ s = cc in
    let once : StandsOnce one = record {
      inputs = some_entries (get (codes "inputs") d) inputs (λ e at. got_ordered (codes "inputs") d e o at) second;
      races = some_races (get (codes "races") d) races third;
    } in
    subst StandsOnce same once
  where
    made : List Text → List Entry → List RaceEntry → Result StepEntry Fault
    made edges inputs races = Ok (record { edges = edges; inputs = inputs; races = races })

    behind_inputs : List Text → List Entry → Result StepEntry Fault
    behind_inputs edges inputs = shapes.races (get (codes "races") d) >>= made edges inputs

    behind : List Text → Result StepEntry Fault
    behind edges = entries (get (codes "inputs") d) >>= behind_inputs edges

steps_once : (ds : Items) (ss : List StepEntry) → AreOrdered ds → steps_of ds ≡ Ok ss → AllByRecursion StandsOnce ss
steps_once no_items ss o h = let s : [] ≡ ss = cc in subst (AllByRecursion StandsOnce) s tt
steps_once (item d ds) ss o h =
    let (s, first, rest) = bind_ok (shapes.step d) (λ s. steps_of ds >>= (λ rs. Ok (s ∷ rs))) ss h in
    let (rs, others, whole) = bind_ok (steps_of ds) (λ rs. Ok (s ∷ rs)) ss rest in
    let same : s ∷ rs ≡ ss = cc in
    subst (AllByRecursion StandsOnce) same (step_once d s o.0 first, steps_once ds rs o.1 others)

some_steps : (o : Option Data) (ss : List StepEntry) → ((d : Data) → o ≡ Some d → IsOrdered d) → steps o ≡ Ok ss → AllByRecursion StandsOnce ss
some_steps o ss h f =
    let (ds, there, all) = bind_ok (shaped o >>= (λ d. shaped (as_array d))) steps_of ss f in
    let (d, first, is) = bind_ok (shaped o) (λ d. shaped (as_array d)) ds there in
    let ordered : IsOrdered (array ds) = subst IsOrdered (array_is d ds (required_ok 502 [] (as_array d) ds is)) (h d (required_ok 502 [] o d first)) in
    steps_once ds ss ordered all

-- ---- the whole document

document_once : (d : Data) (doc : Document) → IsOrdered d → document d ≡ Ok doc → Differ name_of doc.start × AllByRecursion StandsOnce doc.steps
document_once d doc o h =
    let read = (none_broken (known_in (codes "start" ∷ codes "steps" ∷ []) (as_object d)) (entries (get (codes "start") d) >>= behind) doc h).1 in
    let (start, first, rest) = bind_ok (entries (get (codes "start") d)) behind doc read in
    let (ss, second, whole) = bind_ok (steps (get (codes "steps") d)) (made start) doc rest in
    let one : Document = record { start = start; steps = ss } in
    let same : one ≡ doc = cc in
    subst (λ (x : Document). Differ name_of x.start × AllByRecursion StandsOnce x.steps) same (
      some_entries (get (codes "start") d) start (λ e at. got_ordered (codes "start") d e o at) first,
      some_steps (get (codes "steps") d) ss (λ e at. got_ordered (codes "steps") d e o at) second,
    )
  where
    made : List Entry → List StepEntry → Result Document Fault
    made start ss = Ok (record { start = start; steps = ss })

    behind : List Entry → Result Document Fault
    behind start = steps (get (codes "steps") d) >>= made start

read_is_ordered : (bytes : List ℕ) (d : Data) → read bytes ≡ Some d → IsOrdered d
read_is_ordered bytes d h = let (j, there, is) = and_then_some (option_and_then (λ p. json.if_last p.0 p.1) (json.value max_depth (tokens bytes))) of_json d h in read_ordered j d is

-- what a record means on a net fits that net
pub meaning_fits : (net : Net) (domains : Domains) → IsNet net → (bytes : List ℕ) (r : Record) → IsMeaning net domains bytes r → FitsNet net domains r
meaning_fits net domains is bytes r (d, tree, means) =
    let (doc, first, rest) = bind_ok (document d) (named net domains) r means in
    let once = document_once d doc (read_is_ordered bytes d tree.1) first in
    record_fits net domains is doc r once.0 once.1 rest

-- the same of an answer that was read
pub answer_fits : (net : Net) (domains : Domains) → IsNet net → (bytes : List ℕ) (d : Data) (doc : Document) (answer : Result Record Stop)
    → IsTree bytes d → Gives (Ok doc) (document d) → Gives answer (named net domains doc) → IfOk answer (FitsNet net domains)
answer_fits net domains is bytes d doc (Ok r) tree first read = meaning_fits net domains is bytes r (d, tree, ap (λ x. x >>= named net domains) first ∙ read)
answer_fits net domains is bytes d doc (Err e) tree first read = tt
