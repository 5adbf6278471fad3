-- What a constraint file says fits together.
use Rattle.std.proofs.Common.{◌≡◌, ◌∙◌, sym, ap, subst, refl, arith, ℕ, zero, suc, ◌+◌, ◌<◌, ◌≤◌, Bool, true, false, ◌&&◌, ◌||◌, cond, List, [], ◌∷◌, ◌++◌, map, length, Option, Some, None, option_map, Result, Ok, Err, get_or, length-append}
use Rattle.std.specs.Prelude.{◌≢◌, AllPairs, IfOk, nat_le, pos, codes, option_and_then}
use Rattle.std.specs.List.{AllByRecursion, list_any}
use Rattle.std.specs.Str.{bytes_eq}
use Rattle.std.proofs.lemmas.Bool.Decides.{nat_tests}
use Rattle.std.proofs.lemmas.List.{get_or_append_left, get_or-append-add}
use Rattle.std.proofs.lemmas.List.Elements.{All-from_recursion}
use Rattle.std.proofs.lemmas.List.Quantifiers.{position-Some}
use Rattle.std.proofs.lemmas.Slice.Eq.{bytes_eq-Decides}
use Rattle.cdc_base.specs.declared.fault.Fault.{Fault}
use Rattle.toml.specs.Data.{Data, integer, Items, no_items, item, Members, get, get_member, as_str, as_table}
use Rattle.cdc_base.specs.declared.signal.ResetPin.{ResetPin}
use Rattle.clock_constraints.specs.declared.Waiver.{Waiver}
use Rattle.clock_constraints.specs.declared.ClockPin.{ClockPin}
use Rattle.clock_constraints.specs.declared.InputPin.{InputPin}
use Rattle.clock_constraints.specs.declared.Constraints.{Constraints}
use Rattle.clock_constraints.specs.declared.entry.InputEntry.{InputEntry}
use Rattle.clock_constraints.specs.declared.file.Document.{Document}
use Rattle.cdc_base.specs.declared.fault.Stop.{Stop}
use Rattle.cdc_base.specs.declared.fault.Stop.TheVariants.{Refused, Memory}
use Rattle.clock_constraints.specs.Refusals.{Text, broken, ◌>>=◌, unless, required, Gives}
use Rattle.clock_constraints.specs.Values.{text, text_passing, is_group, settle_number, settle_or_one, unknown_in}
use Rattle.clock_constraints.specs.Entries.{clock_pin, input_entry, reset_pin, static_name, waiver, entries, entries_of, tables}
use Rattle.clock_constraints.specs.Names.{first_again, repeated, clock_place, input_pin, input_pins}
use Rattle.clock_constraints.specs.Files.{document, port_names, constraints}
use Rattle.clock_constraints.specs.Fit.{AreFit}

-- ---- readings that stand

bind-ok : {A B : Type 0} (r : Result A Fault) (f : A → Result B Fault) (y : B) → (r >>= f) ≡ Ok y → (x : A) × (r ≡ Ok x) × (f x ≡ Ok y)
bind-ok (Ok x) f y h = (x, refl, h)
bind-ok (Err e) f y h = absurd (cc)

unless-ok : {A : Type 0} (o : Option Fault) (r : Result A Fault) (x : A) → unless o r ≡ Ok x → (o ≡ None) × (r ≡ Ok x)
unless-ok None r x h = (refl, h)
unless-ok (Some f) r x h = absurd (cc)

required-ok : {A : Type 0} (number : ℕ) (name : Text) (o : Option A) (x : A) → required number name o ≡ Ok x → o ≡ Some x
required-ok number name None x h = absurd (cc)
required-ok number name (Some y) x h = cc

-- ---- settling numbers

and-left : (x y : Bool) → (x && y) ≡ true → x ≡ true
and-left true y h = refl
and-left false y h = h

and-right : (x y : Bool) → (x && y) ≡ true → y ≡ true
and-right true y h = h
and-right false y h = absurd (cc)

number-fits : (d : Data) (n : ℕ) → settle_number d ≡ Some n → (1 ≤ n) × (n ≤ 3)
number-fits (integer (pos m)) n h = go (nat_le 1 m && nat_le m 3) refl h
  where
    go : (b : Bool) → (nat_le 1 m && nat_le m 3) ≡ b → cond b (Some m) None ≡ Some n → (1 ≤ n) × (n ≤ 3)
    go true e k =
        let same : m ≡ n = cc in
        let low : nat_le 1 m ≡ true = and-left (nat_le 1 m) (nat_le m 3) e in
        let high : nat_le m 3 ≡ true = and-right (nat_le 1 m) (nat_le m 3) e in
        (grind (arith, nat_tests), grind (arith, nat_tests))
    go false e k = absurd (cc)
number-fits d n h = absurd (cc)

settle-fits : (o : Option Data) (n : ℕ) → settle_or_one o ≡ Ok n → (1 ≤ n) × (n ≤ 3)
settle-fits None n h = let same : 1 ≡ n = cc in (omega arith, omega arith)
settle-fits (Some d) n h = number-fits d n (required-ok 402 (codes "settle") (settle_number d) n h)

-- an entry of `clock` from its settling number on, from its group on, and from its name on
abbrev from_settle : Data → Text → Text → Result ClockPin Fault
from_settle d name group = settle_or_one (get (codes "settle") d) >>= (λ (settle : ℕ). Ok (record { name = name; group = group; settle = settle }))

abbrev from_group : Data → Text → Result ClockPin Fault
from_group d name = text_passing is_group (codes "group") d >>= from_settle d name

abbrev from_name : Data → Result ClockPin Fault
from_name d = text (codes "name") d >>= from_group d

clock-fits : (d : Data) (k : ClockPin) → clock_pin d ≡ Ok k → (1 ≤ k.settle) × (k.settle ≤ 3)
clock-fits d k h =
    let u = unless-ok (unknown_in (codes "name" ∷ codes "group" ∷ codes "settle" ∷ []) (as_table d)) (from_name d) k h in
    let a = bind-ok (text (codes "name") d) (from_group d) k u.1 in
    let b = bind-ok (text_passing is_group (codes "group") d) (from_settle d a.0) k a.2 in
    let c = bind-ok (settle_or_one (get (codes "settle") d)) (λ (settle : ℕ). Ok (record { name = a.0; group = b.0; settle = settle })) k b.2 in
    let same : c.0 ≡ k.settle = cc in
    subst (λ n. (1 ≤ n) × (n ≤ 3)) same (settle-fits (get (codes "settle") d) c.0 c.1)

entries-all : {A : Type 0} (one : Data → Result A Fault) (P : A → Type 0) → ((d : Data) (x : A) → one d ≡ Ok x → P x)
    → (ds : Items) (xs : List A) → entries one ds ≡ Ok xs → AllByRecursion P xs
entries-all {A = A} one P fits no_items xs h = let same : ◌≡◌ {A = List A} [] xs = cc in subst (AllByRecursion P) same tt
entries-all {A = A} one P fits (item d ds) xs h =
    let a = bind-ok (one d) (λ (x : A). entries one ds >>= (λ (ys : List A). Ok (x ∷ ys))) xs h in
    let b = bind-ok (entries one ds) (λ (ys : List A). Ok (a.0 ∷ ys)) xs a.2 in
    let same : a.0 ∷ b.0 ≡ xs = cc in
    subst (AllByRecursion P) same (fits d a.0 a.1, entries-all one P fits ds b.0 b.1)

entries_of-all : {A : Type 0} (one : Data → Result A Fault) (P : A → Type 0) → ((d : Data) (x : A) → one d ≡ Ok x → P x)
    → (key : Text) (o : Option Data) (xs : List A) → entries_of one key o ≡ Ok xs → AllByRecursion P xs
entries_of-all {A = A} one P fits key None xs h = let same : ◌≡◌ {A = List A} [] xs = cc in subst (AllByRecursion P) same tt
entries_of-all one P fits key (Some d) xs h =
    let a = bind-ok (required 402 key (tables d)) (entries one) xs h in
    entries-all one P fits a.0 xs a.2

-- a file from each of its arrays on
abbrev from_waivers : Members → Text → List ClockPin → List InputEntry → List ResetPin → List Text → Result Document Fault
from_waivers t top clocks inputs resets statics = entries_of waiver (codes "waive") (get_member (codes "waive") t)
    >>= (λ (waivers : List Waiver). Ok (record { top = top; clocks = clocks; inputs = inputs; resets = resets; statics = statics; waivers = waivers }))

abbrev from_statics : Members → Text → List ClockPin → List InputEntry → List ResetPin → Result Document Fault
from_statics t top clocks inputs resets = entries_of static_name (codes "static") (get_member (codes "static") t) >>= from_waivers t top clocks inputs resets

abbrev from_resets : Members → Text → List ClockPin → List InputEntry → Result Document Fault
from_resets t top clocks inputs = entries_of reset_pin (codes "reset") (get_member (codes "reset") t) >>= from_statics t top clocks inputs

abbrev from_inputs : Members → Text → List ClockPin → Result Document Fault
from_inputs t top clocks = entries_of input_entry (codes "input") (get_member (codes "input") t) >>= from_resets t top clocks

abbrev from_clocks : Members → Text → Result Document Fault
from_clocks t top = entries_of clock_pin (codes "clock") (get_member (codes "clock") t) >>= from_inputs t top

abbrev from_top : Members → Result Document Fault
from_top t = required 402 (codes "top") (option_and_then as_str (get_member (codes "top") t)) >>= from_clocks t

document-fits : (t : Members) (d : Document) → document t ≡ Ok d → AllByRecursion (λ (k : ClockPin). (1 ≤ k.settle) × (k.settle ≤ 3)) d.clocks
document-fits t d h =
    let u = unless-ok (unknown_in (codes "top" ∷ codes "clock" ∷ codes "input" ∷ codes "reset" ∷ codes "static" ∷ codes "waive" ∷ []) (Some t)) (from_top t) d h in
    let top = bind-ok (required 402 (codes "top") (option_and_then as_str (get_member (codes "top") t))) (from_clocks t) d u.1 in
    let clocks = bind-ok (entries_of clock_pin (codes "clock") (get_member (codes "clock") t)) (from_inputs t top.0) d top.2 in
    let inputs = bind-ok (entries_of input_entry (codes "input") (get_member (codes "input") t)) (from_resets t top.0 clocks.0) d clocks.2 in
    let resets = bind-ok (entries_of reset_pin (codes "reset") (get_member (codes "reset") t)) (from_statics t top.0 clocks.0 inputs.0) d inputs.2 in
    let statics = bind-ok (entries_of static_name (codes "static") (get_member (codes "static") t)) (from_waivers t top.0 clocks.0 inputs.0 resets.0) d resets.2 in
    let waivers = bind-ok (entries_of waiver (codes "waive") (get_member (codes "waive") t))
    (λ (waivers : List Waiver). Ok (record { top = top.0; clocks = clocks.0; inputs = inputs.0; resets = resets.0; statics = statics.0; waivers = waivers })) d statics.2 in
    let same : clocks.0 ≡ d.clocks = cc in
    subst (AllByRecursion (λ (k : ClockPin). (1 ≤ k.settle) × (k.settle ≤ 3))) same
    (entries_of-all clock_pin (λ (k : ClockPin). (1 ≤ k.settle) × (k.settle ≤ 3)) clock-fits (codes "clock") (get_member (codes "clock") t) clocks.0 clocks.1)

-- ---- names

any-false : (p : Text → Bool) (xs : List Text) (i : ℕ) (d : Text) → list_any p xs ≡ false → i < length xs → p (get_or xs i d) ≡ false
any-false p [] i d h l = absurd (omega arith)
any-false p (x ∷ xs) i d h l = go (p x) refl h i l (λ j m k. any-false p xs j d k m)
  where
    go : (b : Bool) → p x ≡ b → (b || list_any p xs) ≡ false → (i : ℕ) → i < length (x ∷ xs)
        → ((j : ℕ) → j < length xs → list_any p xs ≡ false → p (get_or xs j d) ≡ false) → p (get_or (x ∷ xs) i d) ≡ false
    go true e k i m rest = absurd (cc)
    go false e k zero m rest = e
    go false e k (suc i) m rest = rest i (omega arith) k

-- where no name stood before, none is among those before it
not-before : (before ns : List Text) → first_again before ns ≡ None → (i j : ℕ) (d : Text) → i < length before → j < length ns → get_or before i d ≢ get_or ns j d
not-before before [] h i j d l m = absurd (omega arith)
not-before before (n ∷ ns) h i j d l m = go (list_any (bytes_eq n) before) refl h j m (λ k p e. not-before (before ++ n ∷ []) ns k i p d (let a = length-append before (n ∷ []) in omega arith) e)
  where
    go : (b : Bool) → list_any (bytes_eq n) before ≡ b → cond b (Some n) (first_again (before ++ n ∷ []) ns) ≡ None → (j : ℕ) → j < length (n ∷ ns)
        → (first_again (before ++ n ∷ []) ns ≡ None → (p : ℕ) → p < length ns → get_or (before ++ n ∷ []) i d ≢ get_or ns p d)
        → get_or before i d ≢ get_or (n ∷ ns) j d
    go true e k j m rest = absurd (cc)
    go false e k zero m rest = λ same.
        let t : bytes_eq n (get_or before i d) ≡ true = (bytes_eq-Decides n (get_or before i d)).1 (sym same) in
        let f : bytes_eq n (get_or before i d) ≡ false = any-false (bytes_eq n) before i d e l in
        let g : true ≡ false = sym t ∙ f in absurd (cc)
    go false e k (suc j) m rest = λ same. rest k j (omega arith) (get_or_append_left before (n ∷ []) d i l ∙ same)

pub all-differ : (before ns : List Text) → first_again before ns ≡ None → AllPairs (λ (a : Text) (b : Text). a ≢ b) ns
all-differ before [] h i j d l m = absurd (omega arith)
all-differ before (n ∷ ns) h i j d l m = go (list_any (bytes_eq n) before) refl h i j l m (all-differ (before ++ n ∷ []) ns)
  where
    go : (b : Bool) → list_any (bytes_eq n) before ≡ b → cond b (Some n) (first_again (before ++ n ∷ []) ns) ≡ None → (i j : ℕ) → i < j → j < length (n ∷ ns)
        → (first_again (before ++ n ∷ []) ns ≡ None → AllPairs (λ (a : Text) (b : Text). a ≢ b) ns) → get_or (n ∷ ns) i d ≢ get_or (n ∷ ns) j d
    go true e k i j l m rest = absurd (cc)
    go false e k i zero l m rest = absurd (omega arith)
    go false e k zero (suc j) l m rest = λ same.
        let a = length-append before (n ∷ []) in
        let here : get_or (before ++ n ∷ []) (length before + 0) d ≡ n = get_or-append-add before (n ∷ []) 0 d in
        not-before (before ++ n ∷ []) ns k (length before + 0) j d (omega arith) (omega arith) (here ∙ same)
    go false e k (suc i) (suc j) l m rest = rest k i j d (omega arith) (omega arith)

none-again : (number : ℕ) (o : Option Text) → option_map (broken number) o ≡ None → o ≡ None
none-again number None h = refl
none-again number (Some n) h = absurd (cc)

-- ---- inputs

pin-fits : (clocks : List ClockPin) (e : InputEntry) (p : InputPin) → input_pin clocks e ≡ Ok p → (p.clock < length clocks) × (p.name ≡ e.name)
pin-fits clocks e p h =
    let b = bind-ok (required 409 e.clock (clock_place clocks e.clock)) (λ (k : ℕ). Ok (record { name = e.name; clock = k })) p h in
    let place = required-ok 409 e.clock (clock_place clocks e.clock) b.0 b.1 in
    let within = position-Some (λ (k : ClockPin). bytes_eq e.clock k.name) clocks b.0 (record { name = []; group = []; settle = 0 }) place in
    let clock : b.0 ≡ p.clock = cc in
    let name : p.name ≡ e.name = cc in
    (subst (λ n. n < length clocks) clock within.0, name)

pins-fit : (clocks : List ClockPin) (es : List InputEntry) (ps : List InputPin) → input_pins clocks es ≡ Ok ps
    → AllByRecursion (λ (p : InputPin). p.clock < length clocks) ps × (map (λ (p : InputPin). p.name) ps ≡ map (λ (e : InputEntry). e.name) es)
pins-fit clocks [] ps h =
    let same : ◌≡◌ {A = List InputPin} [] ps = cc in
    subst (λ (qs : List InputPin). AllByRecursion (λ (p : InputPin). p.clock < length clocks) qs × (map (λ (p : InputPin). p.name) qs ≡ [])) same (tt, refl)
pins-fit clocks (e ∷ es) ps h =
    let a = bind-ok (input_pin clocks e) (λ (p : InputPin). input_pins clocks es >>= (λ (qs : List InputPin). Ok (p ∷ qs))) ps h in
    let b = bind-ok (input_pins clocks es) (λ (qs : List InputPin). Ok (a.0 ∷ qs)) ps a.2 in
    let same : a.0 ∷ b.0 ≡ ps = cc in
    let one = pin-fits clocks e a.0 a.1 in
    let rest = pins-fit clocks es b.0 b.1 in
    subst (λ (qs : List InputPin). AllByRecursion (λ (p : InputPin). p.clock < length clocks) qs × (map (λ (p : InputPin). p.name) qs ≡ e.name ∷ map (λ (q : InputEntry). q.name) es)) same
    ((one.0, rest.0), ap (λ (n : Text). n ∷ map (λ (p : InputPin). p.name) b.0) one.1 ∙ ap (λ (ns : List Text). e.name ∷ ns) rest.1)

-- ---- the file

abbrev made : Document → List InputPin → Constraints
made d inputs = record { top = d.top; clocks = d.clocks; inputs = inputs; resets = d.resets; statics = d.statics; waivers = d.waivers }

pub constraints-fit : (t : Members) (c : Constraints) → constraints t ≡ Ok c → AreFit c
constraints-fit t c h =
    let a = bind-ok (document t) _ c h in
    let d = a.0 in
    let b = bind-ok (unless (repeated 404 (port_names d)) (input_pins d.clocks d.inputs)) _ c a.2 in
    let u = unless-ok (repeated 404 (port_names d)) (input_pins d.clocks d.inputs) b.0 b.1 in
    let w = unless-ok (repeated 410 (map (λ (q : Waiver). q.finding) d.waivers)) (Ok (made d b.0)) c b.2 in
    let same : made d b.0 ≡ c = cc in
    let pins = pins-fit d.clocks d.inputs b.0 u.1 in
    let differ = all-differ [] (port_names d) (none-again 404 (first_again [] (port_names d)) u.0) in
    let clocks = map (λ (k : ClockPin). k.name) d.clocks in
    let resets = map (λ (r : ResetPin). r.name) d.resets in
    subst AreFit same (record {
      inputs = All-from_recursion (λ (i : InputPin). i.clock < length d.clocks) b.0 pins.0;
      names = subst (λ (ns : List Text). AllPairs (λ (x : Text) (y : Text). x ≢ y) (((clocks ++ ns) ++ resets) ++ d.statics)) (sym pins.1) differ;
      settles = All-from_recursion (λ (k : ClockPin). (1 ≤ k.settle) × (k.settle ≤ 3)) d.clocks (document-fits t d a.1);
    })

pub gives-fit : (answer : Result Constraints Stop) (t : Members) → Gives answer (constraints t) → IfOk answer AreFit
gives-fit (Ok c) t h = constraints-fit t c h
gives-fit (Err (Refused f)) t h = tt
gives-fit (Err Memory) t h = tt
