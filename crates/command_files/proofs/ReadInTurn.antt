-- Reads, one after the other.
use Rattle.std.proofs.Common.{◌≡◌, ◌≢◌, ◌∙◌, ◌≤◌, ap, sym, subst, append-nil, inl, inr, ◌⊎◌, ◌++◌, ◌+◌, ◌∷◌, [], List, ℕ, Ok, Err, Option, Some, append_assoc, arith, refl, Result}
use Rattle.cdc_base.specs.Causes.{Rose, RoseBy, StaysTold}
use Rattle.cdc_base.specs.declared.fault.Fault.{Fault}
use Rattle.command_files.specs.declared.answer.Ending.{Ending}
use Rattle.command_files.specs.declared.answer.Ending.TheVariants.{Refused, Memory}
use Rattle.command_files.specs.declared.status.Status.{Status}
use Rattle.command_files.specs.declared.status.Status.TheVariants.{Netlist, Constraints, Record, ReadFault}
use Rattle.command_files.specs.declared.status.Status.TheVariants as status
use Rattle.command_files.specs.Files.{Seen, Text, AskedFor, AskedInOrder, IsLong, IsRefusedBy, IsUnread, IsTooLong, fault_at, max_bytes}
use Rattle.command_files.specs.Endings.{IsEnding, IsLengthEnding, IsOfLength, IsReadEnding, IsReadOf, IsReadOfBoth, IsReadOfThree, IsUnreadOfBoth, IsUnreadOfThree}

-- no count is lower than before
abbrev IsLater : Seen → Seen → Type 0
IsLater before now = (before.taken ≤ now.taken) × (before.faults ≤ now.faults)

-- the statuses of the files
abbrev IsFileStatus : Status → Type 0
IsFileStatus Netlist = Unit {0}
IsFileStatus Constraints = Unit {0}
IsFileStatus Record = Unit {0}
IsFileStatus _ = ⊥

-- a file that was read whole was asked for
asked_ok : (name : Text) (status : Status) (before now : Seen) (bytes : List ℕ) → IsReadOf name status before now (Ok bytes)
    → now.asked ≡ before.asked ++ name ∷ []
asked_ok name status before now bytes read = elim read.asks [ inl e ↦ e | inr (p, e) ↦ cc ]

asked_twice : (net con : Text) (before mid now : Seen) → mid.asked ≡ before.asked ++ net ∷ [] → now.asked ≡ mid.asked ++ con ∷ []
    → AskedFor (net ∷ con ∷ []) before now
asked_twice net con before mid now first second =
    second ∙ ap (λ a. a ++ con ∷ []) first ∙ append_assoc before.asked (net ∷ []) (con ∷ [])

asked_both : (net con : Text) (before mid now : Seen) (result : Result (List ℕ) Ending) → mid.asked ≡ before.asked ++ net ∷ []
    → (now.asked ≡ mid.asked ++ con ∷ []) ⊎ ((result ≡ Err Memory) × (now.asked ≡ mid.asked))
    → AskedInOrder (net ∷ con ∷ []) before now
asked_both net con before mid now result first (inl second) = (net ∷ con ∷ [], [], refl, asked_twice net con before mid now first second)
asked_both net con before mid now result first (inr (p, same)) = (net ∷ [], con ∷ [], refl, same ∙ first)

-- a read that failed after an earlier one names the file asked for last, and its count rose since the first
unread : (name : Text) (before mid now : Seen) (fault : Fault) → before.faults ≤ mid.faults → now.asked ≡ mid.asked ++ name ∷ []
    → fault ≡ fault_at 1 name → Rose mid.faults now.faults → IsUnread before now fault
unread name before mid now fault later asked is rose =
    let named : name ≡ fault.name = sym (ap (λ (f : Fault). f.name) is) in
    let last : now.asked ≡ mid.asked ++ fault.name ∷ [] = asked ∙ ap (λ n. mid.asked ++ n ∷ []) named in
    let same : fault ≡ fault_at 1 fault.name = is ∙ ap (fault_at 1) named in
    let risen : Rose before.faults now.faults = omega (arith, rose) in
    ((mid.asked, last), same, risen)

-- a file over its limit after an earlier read is the file asked for last, and the count of bytes rose since the first
too_long : (name : Text) (before mid now : Seen) (fault : Fault) → before.taken ≤ mid.taken → now.asked ≡ mid.asked ++ name ∷ []
    → fault ≡ fault_at 600 name → RoseBy (max_bytes + 1) mid.taken now.taken → IsTooLong before now fault
too_long name before mid now fault later asked is rose =
    let named : name ≡ fault.name = sym (ap (λ (f : Fault). f.name) is) in
    let last : now.asked ≡ mid.asked ++ fault.name ∷ [] = asked ∙ ap (λ n. mid.asked ++ n ∷ []) named in
    let same : fault ≡ fault_at 600 fault.name = is ∙ ap (fault_at 600) named in
    let risen : RoseBy (max_bytes + 1) before.taken now.taken = omega (arith, rose) in
    ((mid.asked, last), same, risen)

-- the file of a status is over its limit
long_file : (s : Status) (before now : Seen) (fault : Fault) → IsFileStatus s → IsTooLong before now fault → IsRefusedBy before now s fault
long_file Netlist before now fault of_file long = inl long
long_file Constraints before now fault of_file long = inl long
long_file status.Done before now fault of_file long = absurd of_file
long_file status.Violations before now fault of_file long = absurd of_file
long_file status.Usage before now fault of_file long = absurd of_file
long_file Record before now fault of_file long = inl long
long_file status.ReadFault before now fault of_file long = absurd of_file
long_file status.WriteFault before now fault of_file long = absurd of_file
long_file status.Memory before now fault of_file long = absurd of_file
long_file status.Waived before now fault of_file long = absurd of_file

refused_ending : (name : Text) (of_name : Status) (before mid now : Seen) (s : Status) (f : Fault) → IsFileStatus of_name
    → IsLater before mid → now.asked ≡ mid.asked ++ name ∷ [] → IsReadEnding name of_name mid now (Refused s f)
    → IsEnding before now (Refused s f)
refused_ending name of_name before mid now s f of_file later asked (inl (is, fault, rose)) =
    subst (λ (x : Status). IsRefusedBy before now x f) (sym is) (unread name before mid now f later.1 asked fault rose)
refused_ending name of_name before mid now s f of_file later asked (inr (is, fault, rose)) =
    subst (λ (x : Status). IsRefusedBy before now x f) (sym is)
    (long_file of_name before now f of_file (too_long name before mid now f later.0 asked fault rose))

-- a read after earlier ones ended
read_ending : (name : Text) (of_name : Status) (before mid now : Seen) (e : Ending) → IsFileStatus of_name → IsLater before mid
    → IsReadOf name of_name mid now (Err e) → IsEnding before now e
read_ending name of_name before mid now Memory of_file later read = tt
read_ending name of_name before mid now (Refused s f) of_file later read = elim read.asks [
  | inl asked ↦ refused_ending name of_name before mid now s f of_file later asked read.ended
  | inr (p, same) ↦ cc
]

asked_one : (net con : Text) (before now : Seen) (result : Result (List ℕ) Ending)
    → (now.asked ≡ before.asked ++ net ∷ []) ⊎ ((result ≡ Err Memory) × (now.asked ≡ before.asked))
    → AskedInOrder (net ∷ con ∷ []) before now
asked_one net con before now result (inl first) = (net ∷ [], con ∷ [], refl, first)
asked_one net con before now result (inr (p, same)) = ([], net ∷ con ∷ [], refl, same ∙ sym (append-nil before.asked))

first_length : (net : Text) (before now : Seen) (e : Ending) → IsReadEnding net Netlist before now e → IsLengthEnding Netlist net e
first_length net before now Memory ended = tt
first_length net before now (Refused s f) (inl (is, fault, rose)) = inr is
first_length net before now (Refused s f) (inr (is, fault, rose)) = inl (is, fault)

first_lengths : (net con : Text) (before now : Seen) (e : Ending) → IsReadEnding net Netlist before now e
    → IsLengthEnding Constraints con e ⊎ IsLengthEnding Netlist net e
first_lengths net con before now e ended = inr (first_length net before now e ended)

second_length : (net con : Text) (mid now : Seen) (e : Ending) → IsReadEnding con Constraints mid now e
    → IsLengthEnding Constraints con e ⊎ IsLengthEnding Netlist net e
second_length net con mid now Memory ended = inl tt
second_length net con mid now (Refused s f) (inl (is, fault, rose)) = inl (inr is)
second_length net con mid now (Refused s f) (inr (is, fault, rose)) = inl (inl (is, fault))

-- what is told stays told
pub still_told : (held_before held_now : Option Text) (bytes : Text) → StaysTold held_before held_now → held_before ≡ Some bytes → held_now ≡ Some bytes
still_told held_before held_now bytes stays told = subst (λ (o : Option Text). StaysTold o held_now) told stays

-- so a file that is told to be too long is so after other reads
long_then : (name : Text) (before now : Seen) → StaysTold (before.held name) (now.held name) → IsLong before name → IsLong now name
long_then name before now stays (all, told, over) = (all, still_told (before.held name) (now.held name) all stays told, over)

-- the first read ended
pub first_ends : {T : Type 0} (net con : Text) (before now : Seen) (e : Ending) → IsReadOf net Netlist before now (Err e)
    → IsReadOfBoth {T = T} net con before now (Err e)
first_ends net con before now e first = record {
  asks = asked_one net con before now (Err e) first.asks;
  ended = read_ending net Netlist before before now e tt (omega arith, omega arith) first;
  long_net = λ _. first_length net before now e first.ended;
  long_con = λ _. first_lengths net con before now e first.ended;
}

-- the second read ended
pub second_ends : {T : Type 0} (net con : Text) (before mid now : Seen) (bytes : List ℕ) (e : Ending)
    → IsReadOf net Netlist before mid (Ok bytes) → IsReadOf con Constraints mid now (Err e) → IsReadOfBoth {T = T} net con before now (Err e)
second_ends net con before mid now bytes e first second = record {
  asks = asked_both net con before mid now (Err e) (asked_ok net Netlist before mid bytes first) second.asks;
  ended = read_ending con Constraints before mid now e tt first.rising second;
  long_net = λ long. absurd (first.short long);
  long_con = λ _. second_length net con mid now e second.ended;
}

-- both were read
pub both_read : {T : Type 0} (net con : Text) (before mid now : Seen) (bytes more : List ℕ) (texts : T)
    → IsReadOf net Netlist before mid (Ok bytes) → IsReadOf con Constraints mid now (Ok more) → IsReadOfBoth net con before now (Ok texts)
both_read net con before mid now bytes more texts first second = record {
  asks = asked_both net con before mid now (Ok more) (asked_ok net Netlist before mid bytes first) second.asks;
  ended = tt;
  long_net = λ long. absurd (first.short long);
  long_con = λ long. absurd (second.short (long_then con before mid (first.holds con) long));
}

pub first_unread : (net con : Text) (before now : Seen) (e : Ending) → IsReadOf net Netlist before now (Err e) → IsUnreadOfBoth net con e
first_unread net con before now e read = first_lengths net con before now e read.ended

pub second_unread : (net con : Text) (before now : Seen) (e : Ending) → IsReadOf con Constraints before now (Err e) → IsUnreadOfBoth net con e
second_unread net con before now e read = second_length net con before now e read.ended

-- ---- three files

asked_first : (net con run : Text) (before now : Seen) (result : Result (List ℕ) Ending)
    → (now.asked ≡ before.asked ++ net ∷ []) ⊎ ((result ≡ Err Memory) × (now.asked ≡ before.asked))
    → AskedInOrder (net ∷ con ∷ run ∷ []) before now
asked_first net con run before now result (inl first) = (net ∷ [], con ∷ run ∷ [], refl, first)
asked_first net con run before now result (inr (p, same)) = ([], net ∷ con ∷ run ∷ [], refl, same ∙ sym (append-nil before.asked))

asked_second : (net con run : Text) (before mid now : Seen) (result : Result (List ℕ) Ending) → mid.asked ≡ before.asked ++ net ∷ []
    → (now.asked ≡ mid.asked ++ con ∷ []) ⊎ ((result ≡ Err Memory) × (now.asked ≡ mid.asked))
    → AskedInOrder (net ∷ con ∷ run ∷ []) before now
asked_second net con run before mid now result first (inl second) = (net ∷ con ∷ [], run ∷ [], refl, asked_twice net con before mid now first second)
asked_second net con run before mid now result first (inr (p, same)) = (net ∷ [], con ∷ run ∷ [], refl, same ∙ first)

asked_third : (net con run : Text) (before late now : Seen) (result : Result (List ℕ) Ending) → AskedFor (net ∷ con ∷ []) before late
    → (now.asked ≡ late.asked ++ run ∷ []) ⊎ ((result ≡ Err Memory) × (now.asked ≡ late.asked))
    → AskedInOrder (net ∷ con ∷ run ∷ []) before now
asked_third net con run before late now result first (inl third) =
    (net ∷ con ∷ run ∷ [], [], refl, third ∙ ap (λ a. a ++ run ∷ []) first ∙ append_assoc before.asked (net ∷ con ∷ []) (run ∷ []))
asked_third net con run before late now result first (inr (p, same)) = (net ∷ con ∷ [], run ∷ [], refl, same ∙ first)

third_length : (net con run : Text) (late now : Seen) (e : Ending) → IsReadEnding run Record late now e
    → IsLengthEnding Record run e ⊎ (IsLengthEnding Constraints con e ⊎ IsLengthEnding Netlist net e)
third_length net con run late now Memory ended = inl tt
third_length net con run late now (Refused s f) (inl (is, fault, rose)) = inl (inr is)
third_length net con run late now (Refused s f) (inr (is, fault, rose)) = inl (inl (is, fault))

pub third_unread : (net con run : Text) (before now : Seen) (e : Ending) → IsReadOf run Record before now (Err e) → IsUnreadOfThree net con run e
third_unread net con run before now e read = third_length net con run before now e read.ended

-- the first of three reads ended
pub first_of_three : {T : Type 0} (net con run : Text) (before now : Seen) (e : Ending) → IsReadOf net Netlist before now (Err e)
    → IsReadOfThree {T = T} net con run before now (Err e)
first_of_three net con run before now e first = record {
  asks = asked_first net con run before now (Err e) first.asks;
  ended = read_ending net Netlist before before now e tt (omega arith, omega arith) first;
  long_net = λ _. first_length net before now e first.ended;
  long_con = λ _. first_lengths net con before now e first.ended;
  long_run = λ _. inr (first_lengths net con before now e first.ended);
}

-- the second of three
pub second_of_three : {T : Type 0} (net con run : Text) (before mid now : Seen) (bytes : List ℕ) (e : Ending)
    → IsReadOf net Netlist before mid (Ok bytes) → IsReadOf con Constraints mid now (Err e) → IsReadOfThree {T = T} net con run before now (Err e)
second_of_three net con run before mid now bytes e first second = record {
  asks = asked_second net con run before mid now (Err e) (asked_ok net Netlist before mid bytes first) second.asks;
  ended = read_ending con Constraints before mid now e tt first.rising second;
  long_net = λ long. absurd (first.short long);
  long_con = λ _. second_length net con mid now e second.ended;
  long_run = λ _. inr (second_length net con mid now e second.ended);
}

both_asked : (net con : Text) (before mid late : Seen) (bytes more : List ℕ) → IsReadOf net Netlist before mid (Ok bytes) → IsReadOf con Constraints mid late (Ok more)
    → AskedFor (net ∷ con ∷ []) before late
both_asked net con before mid late bytes more first second =
    asked_twice net con before mid late (asked_ok net Netlist before mid bytes first) (asked_ok con Constraints mid late more second)

both_later : (before mid late : Seen) → IsLater before mid → IsLater mid late → IsLater before late
both_later before mid late first second = (omega (arith, first, second), omega (arith, first, second))

-- the third of three
pub third_of_three : {T : Type 0} (net con run : Text) (before mid late now : Seen) (bytes more : List ℕ) (e : Ending)
    → IsReadOf net Netlist before mid (Ok bytes) → IsReadOf con Constraints mid late (Ok more) → IsReadOf run Record late now (Err e)
    → IsReadOfThree {T = T} net con run before now (Err e)
third_of_three net con run before mid late now bytes more e first second third = record {
  asks = asked_third net con run before late now (Err e) (both_asked net con before mid late bytes more first second) third.asks;
  ended = read_ending run Record before late now e tt (both_later before mid late first.rising second.rising) third;
  long_net = λ long. absurd (first.short long);
  long_con = λ long. absurd (second.short (long_then con before mid (first.holds con) long));
  long_run = λ _. third_length net con run late now e third.ended;
}

-- all three were read
pub all_read : {T : Type 0} (net con run : Text) (before mid late now : Seen) (bytes more most : List ℕ) (texts : T)
    → IsReadOf net Netlist before mid (Ok bytes) → IsReadOf con Constraints mid late (Ok more) → IsReadOf run Record late now (Ok most)
    → IsReadOfThree net con run before now (Ok texts)
all_read net con run before mid late now bytes more most texts first second third = record {
  asks = asked_third net con run before late now (Ok most) (both_asked net con before mid late bytes more first second) third.asks;
  ended = tt;
  long_net = λ long. absurd (first.short long);
  long_con = λ long. absurd (second.short (long_then con before mid (first.holds con) long));
  long_run = λ long. absurd (third.short (long_then run mid late (second.holds run) (long_then run before mid (first.holds run) long)));
}

-- the status of a read that ended is that of its file
of_other : (name run : Text) (status : Status) (before now : Seen) (e : Ending) → status ≢ Record → IsReadEnding name status before now e → IsOfLength run e
of_other name run status before now Memory other ended = tt
of_other name run status before now (Refused s f) other (inl (is, fault, rose)) = λ h. cc
of_other name run status before now (Refused s f) other (inr (is, fault, rose)) = λ h. absurd (other (sym is ∙ h))

pub netlist_length : (name run : Text) (before now : Seen) (e : Ending) → IsReadOf name Netlist before now (Err e) → IsOfLength run e
netlist_length name run before now e read = of_other name run Netlist before now e (λ h. cc) read.ended

pub constraints_length : (name run : Text) (before now : Seen) (e : Ending) → IsReadOf name Constraints before now (Err e) → IsOfLength run e
constraints_length name run before now e read = of_other name run Constraints before now e (λ h. cc) read.ended

pub record_length : (run : Text) (before now : Seen) (e : Ending) → IsReadOf run Record before now (Err e) → IsOfLength run e
record_length run before now Memory read = tt
record_length run before now (Refused s f) read = elim read.ended [
  | inl (is, fault, rose) ↦ λ h. cc
  | inr (is, fault, rose) ↦ λ h. fault
]
