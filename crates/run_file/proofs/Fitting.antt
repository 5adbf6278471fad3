-- The meaning of a record fits the net that it was read for.
use Rattle.std.proofs.Common.{◌≡◌, ◌≢◌, ◌∙◌, ℕ, zero, suc, ◌+◌, ◌^◌, ◌<◌, ◌≤◌, ◌==◌, ◌&&◌, ◌||◌, nat_lt, nat_le, Bool, true, false, not, cond, List, [], ◌∷◌, ◌++◌, map, length, Option, Some, None, Result, Ok, Err, Contains, ◌⊎◌, inl, inr, refl, sym, ap, ap₂, subst, arith, eqb-true, lt-ltb, ltb-false}
use Rattle.std.specs.Prelude.{All, AllPairs, slice_get, is_some, option_and_then, bit_and, bit_xor, if◌then◌else◌}
use Rattle.std.specs.List.{AllByRecursion, list_any, position_from}
use Rattle.std.specs.Option.{option_map_or}
use Rattle.std.specs.Str.{bytes_eq}
use Rattle.std.proofs.lemmas.Bool.{and_from}
use Rattle.std.proofs.lemmas.Bool.Decides.{nat_tests}
use Rattle.std.proofs.lemmas.List.Elements.{All-cons, All-nil}
use Rattle.std.proofs.lemmas.List.Kept.{AllPairs-cons}
use Rattle.cdc_base.specs.declared.bit.Bit.{Bit}
use Rattle.cdc_base.specs.declared.fault.Fault.{Fault}
use Rattle.cdc_base.specs.declared.signal.Signal.{Signal}
use Rattle.cdc_base.specs.Bits.{bit_text}
use Rattle.cell_graph.specs.declared.net.Net.{Net}
use Rattle.cell_graph.specs.declared.net.Reg.{Reg}
use Rattle.cell_graph.specs.Tree.{bit_at}
use Rattle.cell_graph.proofs.Words.{bit-zero, bit_and-bit, bit_xor-bit}
use Rattle.clock_constraints.specs.Refusals.{Text, broken, ◌>>=◌, required, unless}
use Rattle.domains.specs.declared.Domains.{Domains}
use Rattle.domains.specs.Nets.{is_register, register_signals, IsNet}
use Rattle.domains.specs.Tables.{first_signal}
use Rattle.cdc_model.specs.declared.record.Given.{Given}
use Rattle.cdc_model.specs.declared.record.Race.{Race}
use Rattle.cdc_model.specs.declared.record.Record.{Record}
use Rattle.cdc_model.specs.declared.record.RecordStep.{RecordStep}
use Rattle.cdc_model.specs.Nets.{bit_count, is_register_bit, is_within, next_cell, start_of}
use Rattle.cdc_model.proofs.Ascending.{here, later, from_map}
use Rattle.cdc_model.proofs.Found.{has_next}
use Rattle.settling_sim.specs.Opened.{AreStarts, IsStart}
use Rattle.settling_sim.specs.Runs.{IsInput, IsRace, IsStepOf}
use Rattle.settling_sim.specs.State.{has_kind, is_clocked_input, is_state_signal}
use Rattle.run_file.specs.declared.document.Document.{Document}
use Rattle.run_file.specs.declared.document.Entry.{Entry}
use Rattle.run_file.specs.declared.document.RaceEntry.{RaceEntry}
use Rattle.run_file.specs.declared.document.StepEntry.{StepEntry}
use Rattle.run_file.specs.Files.{named, FitsNet}
use Rattle.run_file.specs.Names as names
use Rattle.run_file.specs.Names.{bit_named, each, given, has_start, input_value, is_wider, known, other_bits, passing, register_bit, start_value, starting, state_bit}
use Rattle.run_file.proofs.Places.{IsFoundAt, bit-found, text-same}

-- ---- readings that came to their end

pub bind_ok : {A B : Type 0} (r : Result A Fault) (f : A → Result B Fault) (y : B) → (r >>= f) ≡ Ok y → (x : A) × (r ≡ Ok x) × (f x ≡ Ok y)
bind_ok (Ok x) f y e = (x, refl, e)
bind_ok (Err g) f y e = cc

pub required_ok : {A : Type 0} (number : ℕ) (name : Text) (o : Option A) (x : A) → required number name o ≡ Ok x → o ≡ Some x
required_ok number name None x e = cc
required_ok number name (Some y) x e = cc

pub passing_some : {A : Type 0} (test : A → Bool) (o : Option A) (x : A) → passing test o ≡ Some x → (o ≡ Some x) × (test x ≡ true)
passing_some test None x e = cc
passing_some test (Some y) x e = go (test y) refl e
  where
    go : (v : Bool) → test y ≡ v → (if v then Some y else None) ≡ Some x → (Some y ≡ Some x) × (test x ≡ true)
    go true t f = let s : y ≡ x = cc in (f, ap test (sym s) ∙ t)
    go false t f = cc

pub not_refused : {A : Type 0} (b : Bool) (f : Fault) (r : Result A Fault) (x : A) → (if b then Err f else r) ≡ Ok x → (b ≡ false) × (r ≡ Ok x)
not_refused true f r x e = cc
not_refused false f r x e = (refl, e)

-- ---- signals and bits by their names

named_at : (t : Text) (k : ℕ) (ss : List Signal) (n : ℕ) → position_from (λ s. bytes_eq t s.name) k ss ≡ Some n → (place : ℕ) × (s : Signal) × (n ≡ k + place) × (slice_get ss place ≡ Some s) × (t ≡ s.name)
named_at t k [] n e = cc
named_at t k (s ∷ ss) n e = go (bytes_eq t s.name) refl e (named_at t (k + 1) ss n)
  where
    go : (v : Bool) → bytes_eq t s.name ≡ v → cond v (Some k) (position_from (λ s. bytes_eq t s.name) (k + 1) ss) ≡ Some n
        → (position_from (λ s. bytes_eq t s.name) (k + 1) ss ≡ Some n → (place : ℕ) × (s : Signal) × (n ≡ (k + 1) + place) × (slice_get ss place ≡ Some s) × (t ≡ s.name))
        → (place : ℕ) × (r : Signal) × (n ≡ k + place) × (slice_get (s ∷ ss) place ≡ Some r) × (t ≡ r.name)
    go true h f ih = let same : k ≡ n = cc in (0, s, omega (arith, same), refl, text-same t s.name h)
    go false h f ih = let (place, r, at, there, is) = ih f in (suc place, r, omega (arith, at), there, is)

signal_is : (signals : List Signal) (t : Text) (n : ℕ) → first_signal signals t ≡ Some n → (s : Signal) × (slice_get signals n ≡ Some s) × (t ≡ s.name)
signal_is signals t n e = let (place, s, at, there, is) = named_at t 0 signals n e in
    (s, subst (λ (k : ℕ). slice_get signals k ≡ Some s) (let f : place ≡ n = omega (arith, at) in f) there, is)

-- names of one signal are one name
one_signal : (signals : List Signal) (t u : Text) (m n : ℕ) → first_signal signals t ≡ Some m → first_signal signals u ≡ Some n → m ≡ n → t ≡ u
one_signal signals t u m n e f same =
    let (r, at, is) = signal_is signals t m e in
    let (s, there, was) = signal_is signals u n f in
    let one : Some r ≡ Some s = sym at ∙ ap (slice_get signals) same ∙ there in
    let alike : r ≡ s = cc in
    is ∙ ap (λ (p : Signal). p.name) alike ∙ sym was

bit_is : (signals : List Signal) (t : Text) (b : Bit) → bit_named signals t ≡ Some b → (s : Signal) × (slice_get signals b.sig ≡ Some s) × (b.at < s.width) × (t ≡ bit_text s b.at)
bit_is signals t b e =
    let f = bit-found 0 signals t b e in
    let at : f.place ≡ b.sig = (let l = f.sig in omega arith) in
    (f.signal, subst (λ (k : ℕ). slice_get signals k ≡ Some f.signal) at f.there, f.within, f.named)

one_bit : (signals : List Signal) (t u : Text) (b c : Bit) → bit_named signals t ≡ Some b → bit_named signals u ≡ Some c → b ≡ c → t ≡ u
one_bit signals t u b c e f same =
    let (r, at, low, is) = bit_is signals t b e in
    let (s, there, less, was) = bit_is signals u c f in
    let one : Some r ≡ Some s = sym at ∙ ap (λ (x : Bit). slice_get signals x.sig) same ∙ there in
    let alike : r ≡ s = cc in
    is ∙ ap₂ (λ (p : Signal) (x : Bit). bit_text p x.at) alike same ∙ sym was

width_is : (signals : List Signal) (sig : ℕ) (s : Signal) → slice_get signals sig ≡ Some s → bit_count signals sig ≡ s.width
width_is signals sig s e = ap (λ (o : Option Signal). option_map_or (λ (p : Signal). p.width) o 0) e

inside : (net : Net) (t : Text) (b : Bit) → bit_named net.graph.signals t ≡ Some b → is_within net b ≡ true
inside net t b e = let (s, there, less, is) = bit_is net.graph.signals t b e in
    lt-ltb b.at (bit_count net.graph.signals b.sig) (omega (arith, width_is net.graph.signals b.sig s there, less))

-- ---- values

abbrev value_given : Entry → ℕ → Result Given Fault
value_given e sig = Ok (record { sig = sig; value = e.value })

given_fits : (signals : List Signal) (e : Entry) (sig : ℕ) (s : Signal) (g : Given) → slice_get signals sig ≡ Some s → given signals e sig ≡ Ok g → (g.sig ≡ sig) × (g.value < 2 ^ bit_count signals g.sig)
given_fits signals e sig s g there h = go (not_refused (is_wider signals sig e.value) (broken 508 e.name) (value_given e sig) g h)
  where
    narrow : nat_le (2 ^ s.width) e.value ≡ false → e.value < 2 ^ s.width
    narrow f = grind (arith, nat_tests)

    go : (is_wider signals sig e.value ≡ false) × (value_given e sig ≡ Ok g) → (g.sig ≡ sig) × (g.value < 2 ^ bit_count signals g.sig)
    go (f, k) =
        let made : Given = record { sig = sig; value = e.value } in
        let is : made ≡ g = cc in
        let low = narrow (sym (ap (λ (o : Option Signal). option_map_or (λ (p : Signal). nat_le (2 ^ p.width) e.value) o false) there) ∙ f) in
        (ap (λ (q : Given). q.sig) (sym is), subst (λ (q : Given). q.value < 2 ^ bit_count signals q.sig) is (subst (λ (w : ℕ). e.value < 2 ^ w) (sym (width_is signals sig s there)) low))

agreeing : (signals : List Signal) (g : Given) (s : Signal) → slice_get signals g.sig ≡ Some s → has_start signals g ≡ true
    → (b : Bit) (v : Bool) → b.sig ≡ g.sig → start_of signals b ≡ Some v → bit_at g.value b.at ≡ v
agreeing signals g s there h b v same start = go (bit_at s.known b.at) refl known_start
  where
    none_differs : bit_and (bit_xor g.value s.start) s.known ≡ 0
    none_differs = eqb-true (bit_and (bit_xor g.value s.start) s.known) 0
        (sym (ap (λ (o : Option Signal). option_map_or (λ (p : Signal). bit_and (bit_xor g.value p.start) p.known == 0) o true) there) ∙ h)

    at_b : slice_get signals b.sig ≡ Some s
    at_b = ap (slice_get signals) same ∙ there

    known_start : cond (bit_at s.known b.at) (Some (bit_at s.start b.at)) None ≡ Some v
    known_start = sym (ap (λ (o : Option Signal). option_and_then (λ (p : Signal). cond (bit_at p.known b.at) (Some (bit_at p.start b.at)) None) o) at_b) ∙ start

    differing : (x y : Bool) → (cond x (not y) y && true) ≡ false → x ≡ y
    differing true true e = refl
    differing true false e = cc
    differing false true e = cc
    differing false false e = refl

    go : (k : Bool) → bit_at s.known b.at ≡ k → cond k (Some (bit_at s.start b.at)) None ≡ Some v → bit_at g.value b.at ≡ v
    go false e f = cc
    go true e f =
        let one : bit_at s.start b.at ≡ v = cc in
        let bits = sym (bit_and-bit (bit_xor g.value s.start) s.known b.at) ∙ ap (λ n. bit_at n b.at) none_differs ∙ bit-zero b.at in
        differing (bit_at g.value b.at) (bit_at s.start b.at)
        (sym (ap₂ (λ x y. x && y) (bit_xor-bit g.value s.start b.at) e) ∙ bits) ∙ one

module _ (net : Net) (domains : Domains) where
  start_fits : (e : Entry) (g : Given) → start_value net domains e ≡ Ok g → IsStart net domains g × (first_signal net.graph.signals e.name ≡ Some g.sig)
  start_fits e g h =
      let signals = net.graph.signals in
      let (sig, first, rest) = bind_ok (known e.name (passing (is_state_signal net domains) (first_signal signals e.name))) (λ sig. given signals e sig >>= starting signals e.name) g h in
      let (found, holds) = passing_some (is_state_signal net domains) (first_signal signals e.name) sig (required_ok 503 e.name (passing (is_state_signal net domains) (first_signal signals e.name)) sig first) in
      let (s, there, is) = signal_is signals e.name sig found in
      let (r, second, last) = bind_ok (given signals e sig) (starting signals e.name) g rest in
      let (at, fits) = given_fits signals e sig s r there second in
      let (same_start, f) = kept (has_start signals r) e.name r g last in
      let rs : slice_get signals r.sig ≡ Some s = ap (slice_get signals) at ∙ there in
      let started : IsStart net domains r = record {
        state = ap (is_state_signal net domains) at ∙ holds;
        fits = fits;
        agrees = agreeing signals r s rs same_start;
      } in
      subst (λ (q : Given). IsStart net domains q × (first_signal signals e.name ≡ Some q.sig)) f (started, found ∙ ap Some (sym at))
    where
      kept : (v : Bool) (name : Text) (r g : Given) → (if v then Ok r else Err (broken 509 name)) ≡ Ok g → (v ≡ true) × (r ≡ g)
      kept true name r g f = (refl, cc)
      kept false name r g f = cc

  input_fits : (e : Entry) (g : Given) → input_value net domains e ≡ Ok g → IsInput net domains g × (first_signal net.graph.signals e.name ≡ Some g.sig)
  input_fits e g h =
      let signals = net.graph.signals in
      let (sig, first, rest) = bind_ok (known e.name (passing (is_clocked_input net domains) (first_signal signals e.name))) (given signals e) g h in
      let (found, clocked) = passing_some (is_clocked_input net domains) (first_signal signals e.name) sig (required_ok 503 e.name (passing (is_clocked_input net domains) (first_signal signals e.name)) sig first) in
      let (s, there, is) = signal_is signals e.name sig found in
      let (at, fits) = given_fits signals e sig s g there rest in
      let input : IsInput net domains g = record { clocked = ap (is_clocked_input net domains) at ∙ clocked; fits = fits } in
      (input, found ∙ ap Some (sym at))

  state_bit_within : (t : Text) (b : Bit) → state_bit net domains t ≡ Ok b → is_within net b ≡ true
  state_bit_within t b h =
      let test = λ (x : Bit). is_state_signal net domains x.sig in
      inside net t b (passing_some test (bit_named net.graph.signals t) b (required_ok 503 t (passing test (bit_named net.graph.signals t)) b h)).0

  -- a register is listed where its signal is of that kind
  listed : (k : ℕ) (ss : List Signal) (n : ℕ) (s : Signal) → slice_get ss n ≡ Some s → is_register s.kind ≡ true → Contains (register_signals k ss) (k + n)
  listed k [] n s e r = cc
  listed k (q ∷ ss) zero s e r =
      let same : q ≡ s = cc in
      subst (λ v. Contains (if v then k ∷ register_signals (k + 1) ss else register_signals (k + 1) ss) (k + 0)) (sym (ap (λ (p : Signal). is_register p.kind) same ∙ r))
      (subst (Contains (k ∷ register_signals (k + 1) ss)) (let f : k ≡ k + 0 = omega arith in f) (here k (register_signals (k + 1) ss)))
  listed k (q ∷ ss) (suc n) s e r = go (is_register q.kind)
      (subst (Contains (register_signals (k + 1) ss)) (let f : (k + 1) + n ≡ k + suc n = omega arith in f) (listed (k + 1) ss n s e r))
    where
      go : (v : Bool) → Contains (register_signals (k + 1) ss) (k + suc n) → Contains (if v then k ∷ register_signals (k + 1) ss else register_signals (k + 1) ss) (k + suc n)
      go true c = later k (register_signals (k + 1) ss) (k + suc n) c
      go false c = c

  register_fits : IsNet net → (t : Text) (b : Bit) → register_bit net t ≡ Ok b → (is_register_bit net b ≡ true) × (bit_named net.graph.signals t ≡ Some b)
  register_fits is t b h =
      let signals = net.graph.signals in
      let test = λ (x : Bit). has_kind net is_register x.sig in
      let (found, kind) = passing_some test (bit_named signals t) b (required_ok 503 t (passing test (bit_named signals t)) b h) in
      let (s, there, less, text) = bit_is signals t b found in
      let of_kind : is_register s.kind ≡ true = sym (ap (λ (o : Option Signal). option_map_or (λ (p : Signal). is_register p.kind) o false) there) ∙ kind in
      let l = subst (Contains (register_signals 0 signals)) (let f : 0 + b.sig ≡ b.sig = omega arith in f) (listed 0 signals b.sig s there of_kind) in
      let c = subst (λ xs. Contains xs b.sig) (sym is.registers) l in
      let (r, in_regs, sig) = from_map (λ (q : Reg). q.sig) net.regs b.sig c in
      (and_from (is_some (next_cell net.regs b.sig)) (is_within net b) (subst (λ (n : ℕ). is_some (next_cell net.regs n) ≡ true) sig (has_next net.regs r in_regs)) (inside net t b found), found)

-- ---- lists, item by item

module _ {A B : Type 0} (one : A → Result B Fault) where
  pub each_all : (Q : A → Type 0) (P : B → Type 0) → ((x : A) (y : B) → Q x → one x ≡ Ok y → P y) → (xs : List A) (ys : List B) → AllByRecursion Q xs → each one xs ≡ Ok ys → All P ys
  each_all Q P step [] ys h e = let s : [] ≡ ys = cc in subst (All P) s (All-nil P)
  each_all Q P step (x ∷ xs) ys h e =
      let (y, first, rest) = bind_ok (one x) (λ y. each one xs >>= (λ zs. Ok (y ∷ zs))) ys e in
      let (zs, others, whole) = bind_ok (each one xs) (λ zs. Ok (y ∷ zs)) ys rest in
      let s : y ∷ zs ≡ ys = cc in
      subst (All P) s (All-cons P y zs (step x y h.0 first) (each_all Q P step xs zs h.1 others))

  always : (xs : List A) → AllByRecursion (λ x. Unit {0}) xs
  always [] = tt
  always (x ∷ xs) = (tt, always xs)

  pub each_long : (xs : List A) (ys : List B) → each one xs ≡ Ok ys → length ys ≡ length xs
  each_long [] ys e = let s : [] ≡ ys = cc in ap length (sym s)
  each_long (x ∷ xs) ys e =
      let (y, first, rest) = bind_ok (one x) (λ y. each one xs >>= (λ zs. Ok (y ∷ zs))) ys e in
      let (zs, others, whole) = bind_ok (each one xs) (λ zs. Ok (y ∷ zs)) ys rest in
      let s : y ∷ zs ≡ ys = cc in
      ap length (sym s) ∙ ap suc (each_long xs zs others)

  pub each_always : (P : B → Type 0) → ((x : A) (y : B) → one x ≡ Ok y → P y) → (xs : List A) (ys : List B) → each one xs ≡ Ok ys → All P ys
  each_always P step xs ys e = each_all (λ x. Unit {0}) P (λ x y u f. step x y f) xs ys (always xs) e

-- no two items have one name
abbrev pub Differ : {A : Type 0} → (A → Text) → List A → Type 0
Differ name [] = Unit {0}
Differ name (x ∷ xs) = AllByRecursion (λ y. name x ≢ name y) xs × Differ name xs

module _ {A B K : Type 0} (one : A → Result B Fault) (name : A → Text) (key : B → K)
    (apart : (x u : A) (y v : B) → one x ≡ Ok y → one u ≡ Ok v → key y ≡ key v → name x ≡ name u) where
  pub each_once : (xs : List A) (ys : List B) → Differ name xs → each one xs ≡ Ok ys → AllPairs (λ (y : B) (z : B). key y ≢ key z) ys
  each_once [] ys h e = let s : [] ≡ ys = cc in subst (AllPairs (λ (y : B) (z : B). key y ≢ key z)) s (λ i j d l m. absurd (omega arith))
  each_once (x ∷ xs) ys h e =
      let (y, first, rest) = bind_ok (one x) (λ y. each one xs >>= (λ zs. Ok (y ∷ zs))) ys e in
      let (zs, others, whole) = bind_ok (each one xs) (λ zs. Ok (y ∷ zs)) ys rest in
      let s : y ∷ zs ≡ ys = cc in
      subst (AllPairs (λ (y : B) (z : B). key y ≢ key z)) s (AllPairs-cons (λ (y : B) (z : B). key y ≢ key z) y zs
      (each_all one (λ u. name x ≢ name u) (λ z. key y ≢ key z) (λ u z differ read same. differ (apart x u y z first read same)) xs zs h.0 others)
      (each_once xs zs h.1 others))

-- ---- the whole record

-- names of a document that stand once
pub record StandsOnce (s : StepEntry) : Type 0 where
  pub inputs : Differ (λ (e : Entry). e.name) s.inputs
  pub races : Differ (λ (r : RaceEntry). r.bit) s.races

module _ (net : Net) (domains : Domains) (is : IsNet net) where
  race_fits : (e : RaceEntry) (r : Race) → names.race net domains e ≡ Ok r → IsRace net r × (bit_named net.graph.signals e.bit ≡ Some r.bit)
  race_fits e r h =
      let (bit, first, rest) = bind_ok (register_bit net e.bit) (λ bit. each (state_bit net domains) e.flip >>= (λ flip. other_bits net domains e.other >>= (λ other. Ok (record { bit = bit; flip = flip; other = other })))) r h in
      let (flip, second, more) = bind_ok (each (state_bit net domains) e.flip) (λ flip. other_bits net domains e.other >>= (λ other. Ok (record { bit = bit; flip = flip; other = other }))) r rest in
      let (other, third, whole) = bind_ok (other_bits net domains e.other) (λ other. Ok (record { bit = bit; flip = flip; other = other })) r more in
      let made : Race = record { bit = bit; flip = flip; other = other } in
      let same : made ≡ r = cc in
      let (register, found) = register_fits net domains is e.bit bit first in
      let race : IsRace net made = record {
        bit = register;
        flips = each_always (state_bit net domains) (λ b. is_within net b ≡ true) (state_bit_within net domains) e.flip flip second;
        others = λ bs eq. others_within e.other bs (third ∙ ap Ok eq);
      } in
      subst (λ (q : Race). IsRace net q × (bit_named net.graph.signals e.bit ≡ Some q.bit)) same (race, found)
    where
      others_within : (o : Option (List Text)) (bs : List Bit) → other_bits net domains o ≡ Ok (Some bs) → All (λ b. is_within net b ≡ true) bs
      others_within None bs f = cc
      others_within (Some ts) bs f =
          let (cs, read, whole) = bind_ok (each (state_bit net domains) ts) (λ cs. Ok (Some cs)) (Some bs) f in
          let same : cs ≡ bs = cc in
          each_always (state_bit net domains) (λ b. is_within net b ≡ true) (state_bit_within net domains) ts bs (read ∙ ap Ok same)

  step_fits : (s : StepEntry) (k : RecordStep) → StandsOnce s → names.step net domains s ≡ Ok k → IsStepOf net domains k
  step_fits s k once h =
      let (edges, first, rest) = bind_ok (each (names.edge domains.clocks) s.edges) (λ edges. each (input_value net domains) s.inputs >>= (λ inputs. each (names.race net domains) s.races >>= (λ races. Ok (record { edges = edges; inputs = inputs; races = races })))) k h in
      let (inputs, second, more) = bind_ok (each (input_value net domains) s.inputs) (λ inputs. each (names.race net domains) s.races >>= (λ races. Ok (record { edges = edges; inputs = inputs; races = races }))) k rest in
      let (races, third, whole) = bind_ok (each (names.race net domains) s.races) (λ races. Ok (record { edges = edges; inputs = inputs; races = races })) k more in
      let made : RecordStep = record { edges = edges; inputs = inputs; races = races } in
      let same : made ≡ k = cc in
      let step : IsStepOf net domains made = record {
        inputs = each_always (input_value net domains) (IsInput net domains) (λ e g f. (input_fits net domains e g f).0) s.inputs inputs second;
        once = each_once (input_value net domains) (λ (e : Entry). e.name) (λ (g : Given). g.sig)
            (λ e f g i x y z. one_signal net.graph.signals e.name f.name g.sig i.sig (input_fits net domains e g x).1 (input_fits net domains f i y).1 z) s.inputs inputs once.inputs second;
        races = each_always (names.race net domains) (IsRace net) (λ e r f. (race_fits e r f).0) s.races races third;
        one_each = each_once (names.race net domains) (λ (e : RaceEntry). e.bit) (λ (r : Race). r.bit)
            (λ e f r q x y z. one_bit net.graph.signals e.bit f.bit r.bit q.bit (race_fits e r x).1 (race_fits f q y).1 z) s.races races once.races third;
      } in
      subst (IsStepOf net domains) same step

  pub record_fits : (doc : Document) (r : Record) → Differ (λ (e : Entry). e.name) doc.start → AllByRecursion StandsOnce doc.steps → named net domains doc ≡ Ok r
      → FitsNet net domains r
  record_fits doc r starts steps h =
      let (few, read) = not_refused (nat_lt 100000 (length doc.steps)) (broken 604 []) (each (start_value net domains) doc.start >>= (λ start. each (names.step net domains) doc.steps >>= (λ ks. Ok (record { start = start; steps = ks })))) r h in
      let (start, first, rest) = bind_ok (each (start_value net domains) doc.start) (λ start. each (names.step net domains) doc.steps >>= (λ ks. Ok (record { start = start; steps = ks }))) r read in
      let (ks, second, whole) = bind_ok (each (names.step net domains) doc.steps) (λ ks. Ok (record { start = start; steps = ks })) r rest in
      let made : Record = record { start = start; steps = ks } in
      let same : made ≡ r = cc in
      let started : AreStarts net domains start = record {
        each = each_always (start_value net domains) (IsStart net domains) (λ e g f. (start_fits net domains e g f).0) doc.start start first;
        once = each_once (start_value net domains) (λ (e : Entry). e.name) (λ (g : Given). g.sig)
            (λ e f g i x y z. one_signal net.graph.signals e.name f.name g.sig i.sig (start_fits net domains e g x).1 (start_fits net domains f i y).1 z) doc.start start starts first;
      } in
      let fits : FitsNet net domains made = record {
        starts = started;
        steps = each_all (names.step net domains) StandsOnce (IsStepOf net domains) step_fits doc.steps ks steps second;
        few = short (length doc.steps) (length ks) few (each_long (names.step net domains) doc.steps ks second);
      } in
      subst (FitsNet net domains) same fits
    where
      short : (n m : ℕ) → nat_lt 100000 n ≡ false → m ≡ n → m ≤ 100000
      short n m f e = let l = ltb-false 100000 n f in omega arith
