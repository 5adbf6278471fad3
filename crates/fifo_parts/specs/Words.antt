-- What register bits take, and the reads of words, as the code has them.
use Rattle.std.specs.Prelude.{◌≡◌, ◌≢◌, ◌⊎◌, ℕ, ◌≤◌, ◌<◌, ◌+◌, ◌-◌, ◌==◌, nat_lt, Bool, true, false, cond, not, ◌&&◌, ◌||◌, Option, Some, None, List, [], map, length, option_map, Contains}
use Rattle.std.specs.Bool.{beq}
use Rattle.std.specs.HashMap as hash
use Rattle.std.specs.HashMap.{HashMap}
use Rattle.std.specs.List.{AllByRecursion, list_any}
use Rattle.cdc_base.specs.declared.bit.Bit.{Bit}
use Rattle.cell_graph.specs.declared.cell.CellId.{CellId}
use Rattle.cell_graph.specs.declared.cell.Node.{Node}
use Rattle.cell_graph.specs.declared.net.Net.{Net}
use Rattle.cell_graph.specs.Cells.{Cells}
use Rattle.cell_graph.specs.Met.{same_id}
use Rattle.cell_graph.specs.Tree.{Var, all_below, bit_at, number}
use Rattle.cell_graph.specs.Unfolded.{IsNodeOf, bit_of, tree_of}
use Rattle.domains.specs.declared.Domains.{Domains}
use Rattle.cdc_model.specs.Nets.{bit_count, bits_of_registers, design_of, is_register_bit, next_tree}
use Rattle.fifo_terms.specs.Takes.{taken}
use Rattle.fifo_terms.specs.Terms as terms
use Rattle.fifo_terms.specs.Terms.{HasTerm, Term}
use Rattle.fifo_laws.specs.Sides.{Side, side_width}
use Rattle.fifo_laws.specs.Words.{Chooses, depth_of, IsWord, IsWordBit}
use Rattle.fifo_nodes.specs.declared.term.Term.{Term as Found}
use Rattle.fifo_nodes.specs.declared.term.Term.TheVariants.{Is, Differ}
use Rattle.fifo_nodes.specs.Takes.{IsTaken}
use Rattle.fifo_nodes.specs.Terms.{term_of, terms_of}
use Rattle.fifo_parts.specs.declared.reads.Read.{Read}
use Rattle.fifo_parts.specs.declared.words.Said.{Said}
use Rattle.fifo_parts.specs.declared.words.Taking.{Taking}
use Rattle.fifo_parts.specs.Comparisons.{own_bit}

-- the lowest bit of a signal
abbrev pub lowest : ℕ → Bit
lowest sig = record { sig = sig; at = 0 }

-- the term says the lowest bit of the signal
abbrev pub SaysBit : Net → ℕ → Found → Type 0
SaysBit net sig (Is None v) = ⊥
SaysBit net sig (Is (Some n) v) = own_bit net.graph n ≡ Some (lowest sig)
SaysBit net sig (Differ a b v) = ⊥

-- some of the terms under which the bit takes its node says it
abbrev pub SaysLowest : Net → ℕ → Taking → Type 0
SaysLowest net sig t = (u : Found) × Contains t.taken.under u × SaysBit net sig u

-- a register bit, and what it takes
abbrev pub IsTaking : Net → Taking → Type 0
IsTaking net t = (is_register_bit net t.bit ≡ true) × IsTaken net.graph (taken t.bit (next_tree net t.bit.sig) t.bit.at) t.taken

-- What each register bit takes, in their order.
pub record AreTakings (net : Net) (ts : List Taking) : Type 0 where
  pub bits : map (λ (t : Taking). t.bit) ts ≡ bits_of_registers net.graph.signals net.regs
  pub each : (t : Taking) → Contains ts t → IsTaking net t

-- the bit of a count, but the highest, that is a bit of a signal at a value
abbrev pub said_of : (count w : ℕ) → Option Bit → Bool → Option Said
said_of count w None v = None
said_of count w (Some b) v = cond ((b.sig == count) && nat_lt (b.at + 1) w) (Some (record { at = b.at; value = v })) None

-- the one that a term says
abbrev pub said_by : Cells → (count w : ℕ) → Found → Option Said
said_by g count w (Is None v) = None
said_by g count w (Is (Some n) v) = said_of count w (own_bit g n) v
said_by g count w (Differ a b v) = None

-- it is bit i at v
abbrev pub is_bit : Option Said → ℕ → Bool → Bool
is_bit None i v = false
is_bit (Some s) i v = (s.at == i) && beq s.value v

-- one of the terms says bit i at v
abbrev pub is_said : Cells → (count w : ℕ) → List Found → ℕ → Bool → Bool
is_said g count w ts i v = list_any (λ t. is_bit (said_by g count w t) i v) ts

-- they say bit i at some value
abbrev pub is_told : Cells → (count w : ℕ) → List Found → ℕ → Bool
is_told g count w ts i = is_said g count w ts i true || is_said g count w ts i false

-- bit i of the word that they say: where they say both values, the one that isn't a term of a push
abbrev pub word_bit : Cells → (count w : ℕ) → (ts under : List Found) → ℕ → Bool
word_bit g count w ts under i = is_said g count w ts i true && (not (is_said g count w ts i false) || not (is_said g count w under i true))

-- where they say it
abbrev pub bit_said : Cells → (count w : ℕ) → (ts under : List Found) → ℕ → Option Bool
bit_said g count w ts under i = cond (is_told g count w ts i) (Some (word_bit g count w ts under i)) None

-- the word that they say, where they say all its bits
abbrev pub word_said : Cells → (count w : ℕ) → (ts under : List Found) → Option ℕ
word_said g count w ts under = cond (all_below (is_told g count w ts) (w - 1)) (Some (number (word_bit g count w ts under) (w - 1))) None

-- they say each bit of word n
abbrev pub says_all : Cells → (count w : ℕ) → List Found → ℕ → Bool
says_all g count w ts n = all_below (λ i. is_said g count w ts i (bit_at n i)) (w - 1)

-- what is said is a bit of word n
abbrev pub is_of : ℕ → Option Said → Bool
is_of n None = false
is_of n (Some s) = beq (bit_at n s.at) s.value

-- the term says a bit of word n
abbrev pub says_word : Cells → (count w n : ℕ) → Found → Bool
says_word g count w n t = is_of n (said_by g count w t)

-- each of the terms says a bit of word n, or is one of the others
abbrev pub AreAllowed : Cells → (count w n : ℕ) → (others ts : List Found) → Type 0
AreAllowed g count w n others ts = AllByRecursion (λ t. (says_word g count w n t ≡ true) ⊎ HasTerm (terms_of g others) (term_of g t)) ts

-- one of the terms is one of the others
abbrev pub HaveCommon : Cells → (ts others : List Found) → Type 0
HaveCommon g ts others = (t : Found) × Contains ts t × HasTerm (terms_of g others) (term_of g t)

-- the register bit is a word bit for word n, and takes the node that was found
abbrev pub IsWordBitOf : Net → Domains → (write read : Side) → ℕ → Taking → Type 0
IsWordBitOf net domains write read n t = IsWordBit (design_of net domains) (next_tree net) write read n (option_map (bit_of net.graph) t.taken.node) t.bit

-- the register bit is a word bit for this word; or it is none
abbrev pub IsWordOf : Net → Domains → (write read : Side) → Taking → Option ℕ → Type 0
IsWordOf net domains write read t None = IsWord (design_of net domains) (next_tree net) write read t.bit → ⊥
IsWordOf net domains write read t (Some n) = (n < depth_of (design_of net domains) write) × IsWordBitOf net domains write read n t

-- a side of 2 to 11 bits with this counter
abbrev pub CountsBy : Net → Domains → ℕ → Side → Type 0
CountsBy net domains count s = (s.reg.count ≡ count) × (2 ≤ side_width (design_of net domains) s) × (side_width (design_of net domains) s ≤ 11)

-- the node chooses among these words by a side's count, as many as that tells apart
abbrev pub IsReadBy : Net → Domains → Side → Node → List Bit → Type 0
IsReadBy net domains s n words = (length words ≡ depth_of (design_of net domains) s) × Chooses (design_of net domains) s 0 words (Some (bit_of net.graph n))

-- All reads of the net, by whatever counts.
pub record AreReads (net : Net) (domains : Domains) (rs : List Read) : Type 0 where
  pub only : (r : Read) → Contains rs r → IsNodeOf net.graph r.node × ((s : Side) → CountsBy net domains r.count s → IsReadBy net domains s r.node r.words)
  pub all : (n : Node) (s : Side) (words : List Bit) → IsNodeOf net.graph n → CountsBy net domains s.reg.count s → IsReadBy net domains s n words
      → (r : Read) × Contains rs r × (r.node ≡ n) × (r.count ≡ s.reg.count) × (r.words ≡ words)

-- The reads of those of the nodes of which this holds.
pub record AreReadsAmong (net : Net) (domains : Domains) (among : Node → Type 0) (rs : List Read) : Type 0 where
  pub only : (r : Read) → Contains rs r → IsNodeOf net.graph r.node × ((s : Side) → CountsBy net domains r.count s → IsReadBy net domains s r.node r.words)
  pub all : (n : Node) (s : Side) (words : List Bit) → among n → IsNodeOf net.graph n → CountsBy net domains s.reg.count s → IsReadBy net domains s n words
      → (r : Read) × Contains rs r × (r.node ≡ n) × (r.count ≡ s.reg.count) × (r.words ≡ words)

-- the node's cell is before place n
abbrev pub IsBefore : ℕ → Node → Type 0
IsBefore n m = m.cell.0 < n

-- the node is of an earlier cell, or a bit of this one below `at`
abbrev pub IsBeforeAt : CellId → ℕ → Node → Type 0
IsBeforeAt c at n = (n.cell.0 < c.0) ⊎ ((n.cell ≡ c) × (n.at < at))

-- each read of the cell is by this count
abbrev pub AreReadBy : Net → Domains → CellId → ℕ → Type 0
AreReadBy net domains c count = (n : Node) (s : Side) (words : List Bit) → n.cell ≡ c → IsNodeOf net.graph n → CountsBy net domains s.reg.count s → IsReadBy net domains s n words → s.reg.count ≡ count

-- there are such terms, and all of them are that bits of signal b, of w bits, are 0
abbrev pub AreZeroTerms : (b w : ℕ) → List Term → Type 0
AreZeroTerms b w ts = (ts ≢ []) × ((t : Term) → Contains ts t → (i : ℕ) × (t ≡ terms.Is (Some (Var b w, i)) false))

-- the term says that a bit of the signal is 0
abbrev pub IsZeroOf : Cells → ℕ → Found → Type 0
IsZeroOf g sig (Is None v) = ⊥
IsZeroOf g sig (Is (Some n) true) = ⊥
IsZeroOf g sig (Is (Some n) false) = (i : ℕ) × (own_bit g n ≡ Some (record { sig = sig; at = i }))
IsZeroOf g sig (Differ a b v) = ⊥

abbrev pub SayZero : Cells → ℕ → List Found → Type 0
SayZero g sig ts = (ts ≢ []) × AllByRecursion (IsZeroOf g sig) ts

-- the count by whose word 0 a condition chooses, if it does
abbrev pub IsCountOf : Net → CellId → Option ℕ → Type 0
IsCountOf net c o = (sig : ℕ) → AreZeroTerms sig (bit_count net.graph.signals sig) (terms.terms (tree_of net.graph c) 0 true) → o ≡ Some sig

-- those that are kept
abbrev pub AreCounts : {S : Type 0} → Net → HashMap CellId (Option ℕ) S → Type 0
AreCounts net counts = (c : CellId) (o : Option ℕ) → hash.get same_id counts c ≡ Some o → IsCountOf net c o
