-- What a check of a certificate answers.
use Rattle.std.specs.Prelude.{◌≡◌, ◌≢◌, ◌⊎◌, ℕ, ◌+◌, ◌<◌, ◌≤◌, ◌^◌, Bool, true, Option, Some, None, List, [], ◌∷◌, length, slice_get, Contains, ⊤}
use Rattle.cdc_base.specs.declared.bit.Bit.{Bit}
use Rattle.cdc_model.specs.declared.scheme.Crossing.{Crossing}
use Rattle.cdc_model.specs.declared.scheme.GrayReg.{GrayReg}
use Rattle.cdc_model.specs.Design.{Design, group}
use Rattle.cdc_model.specs.Ordered.{is_before}
use Rattle.cdc_model.specs.Schemes.{Trees, IsCrossing, Sync, Ring}
use Rattle.cdc_model.specs.Verdict.{IsServed, crossing_key}
use Rattle.cert_text.specs.declared.certificate.Certificate.{Certificate}
use Rattle.cert_text.specs.declared.certificate.Entry.{Entry}
use Rattle.fifo_scheme.specs.declared.found.FifoPair.{FifoPair}
use Rattle.cert_text.specs.Texts.{entries_of}
use Rattle.cell_graph.specs.declared.net.Net.{Net}
use Rattle.cell_graph.specs.Shared.{IsShared}
use Rattle.domains.specs.declared.Domains.{Domains}
use Rattle.domains.specs.Fit.{Fit}
use Rattle.domains.specs.Nets.{IsNet}
use Rattle.cdc_model.specs.Nets.{HasNextCells}
use Rattle.gray_pointer.specs.Registers.{AreStartsNarrow}
use Rattle.cert_check.specs.declared.Checked.{Checked}
use Rattle.cert_check.specs.declared.Checked.TheVariants.{Holds, BadItem, Bare, Word}
use Rattle.cert_check.specs.Certified.{AreMeant, IsCertified, IsItem}

-- all items that stand before a place are what they are listed as
abbrev pub AreItemsBefore : Design → Trees → (GrayReg → Type 0) → (FifoPair → Type 0) → Certificate → ℕ → Type 0
AreItemsBefore d t is_gray stands c n = (i : ℕ) (e : Entry) → i < n → slice_get (entries_of c) i ≡ Some e → IsItem d t is_gray stands c e

-- the line is that of the first item that isn't what it is listed as; the first item has line 2
abbrev pub IsFirstBad : Design → Trees → (GrayReg → Type 0) → (FifoPair → Type 0) → Certificate → ℕ → Type 0
IsFirstBad d t is_gray stands c line = (i : ℕ) × (e : Entry) × (line ≡ i + 2) × (slice_get (entries_of c) i ≡ Some e)
    × (IsItem d t is_gray stands c e → ⊥) × AreItemsBefore d t is_gray stands c i

-- all items but pairs of counts are what they are listed as
abbrev pub AreGood : Design → Trees → (GrayReg → Type 0) → Certificate → Type 0
AreGood d t is_gray c = (e : Entry) → Contains (entries_of c) e → IsItem d t is_gray (λ p. ⊤) c e

-- the line is that of the first bad item; there is none where all but pairs of counts are good
abbrev pub IsFoundBad : Design → Trees → (GrayReg → Type 0) → (FifoPair → Type 0) → Certificate → Option ℕ → Type 0
IsFoundBad d t is_gray stands c (Some line) = IsFirstBad d t is_gray stands c line
IsFoundBad d t is_gray stands c None = AreGood d t is_gray c

-- Each item is what it is listed as, of these synchronizers and rings.
pub record AreItems (d : Design) (t : Trees) (is_gray : GrayReg → Type 0) (stands : FifoPair → Type 0) (c : Certificate) (syncs : List Sync) (rings : List Ring) : Type 0 where
  pub meant : AreMeant c syncs rings
  pub each : (e : Entry) → Contains (entries_of c) e → IsItem d t is_gray stands c e

-- the crossing is the first, by its end and then its source, that no item and no FIFO serves
pub record IsFirstBare (d : Design) (t : Trees) (served : Bit → Bit → Type 0) (k : Crossing) : Type 0 where
  pub crossing : IsCrossing d t k.from k.to
  pub bare : served k.from k.to → ⊥
  pub first : (b x : Bit) → IsCrossing d t b x → is_before (crossing_key (record { from = b; to = x })) (crossing_key k) ≡ true → served b x

-- each crossing is served
abbrev pub AreServed : Design → Trees → (Bit → Bit → Type 0) → Type 0
AreServed d t served = (b x : Bit) → IsCrossing d t b x → served b x

-- two synchronizers at different places lead from the word into the group: from one bit of it, or from two and no
-- listed Gray register has the word as its code
abbrev pub Meet : Design → List Sync → List GrayReg → (word group : ℕ) → Type 0
Meet d syncs grays w g = (i j : ℕ) × (s r : Sync) × (i < j) × (slice_get syncs i ≡ Some s) × (slice_get syncs j ≡ Some r) × (s.from.sig ≡ w)
    × (r.from.sig ≡ w)
    × (group d s.first ≡ Some g) × (group d r.first ≡ Some g) × ((s.from ≡ r.from) ⊎ ((y : GrayReg) → Contains grays y → y.gray ≢ w))

-- they do for this word and group, the first such ones
pub record IsFirstMeeting (d : Design) (syncs : List Sync) (grays : List GrayReg) (w g : ℕ) : Type 0 where
  pub meet : Meet d syncs grays w g
  pub first : (v h : ℕ) → is_before (v ∷ h ∷ []) (w ∷ g ∷ []) ≡ true → Meet d syncs grays v h → ⊥

-- the first word and group that do; none where none do
abbrev pub IsFoundMeeting : Design → List Sync → List GrayReg → Option (ℕ × ℕ) → Type 0
IsFoundMeeting d syncs grays (Some p) = IsFirstMeeting d syncs grays p.0 p.1
IsFoundMeeting d syncs grays None = (w g : ℕ) → Meet d syncs grays w g → ⊥

-- What is said of crossings and words, where all items are good.
abbrev pub AreCrossingsChecked : Design → Trees → List Crossing → List Sync → (Bit → Bit → Bool) → Certificate → Checked → Type 0
AreCrossingsChecked d t crossings syncs is_extra c (BadItem line) = ⊥
AreCrossingsChecked d t crossings syncs is_extra c (Bare k) = IsFirstBare d t (IsServed syncs c.loads is_extra) k
AreCrossingsChecked d t crossings syncs is_extra c (Word w g) = AreServed d t (IsServed syncs c.loads is_extra) × IsFirstMeeting d syncs c.grays w g
AreCrossingsChecked d t crossings syncs is_extra c (Holds n) = AreServed d t (IsServed syncs c.loads is_extra)
    × ((w g : ℕ) → Meet d syncs c.grays w g → ⊥) × (n ≡ length crossings)

-- What the answer says: the first bad item; or the first crossing that isn't served, where all items are good; or
-- the first word and group, where all crossings are served as well; or that the certificate holds, with the number of crossings.
abbrev pub IsChecked : Design → Trees → List Crossing → (GrayReg → Type 0) → (FifoPair → Type 0) → (Bit → Bit → Bool) → Certificate → Checked → Type 0
IsChecked d t crossings is_gray stands is_extra c (BadItem line) = IsFirstBad d t is_gray stands c line
IsChecked d t crossings is_gray stands is_extra c (Bare k) = (syncs : List Sync) × (rings : List Ring) × AreItems d t is_gray stands c syncs rings
    × IsFirstBare d t (IsServed syncs c.loads is_extra) k
IsChecked d t crossings is_gray stands is_extra c (Word w g) = (syncs : List Sync) × (rings : List Ring) × AreItems d t is_gray stands c syncs rings
    × AreServed d t (IsServed syncs c.loads is_extra) × IsFirstMeeting d syncs c.grays w g
IsChecked d t crossings is_gray stands is_extra c (Holds n) = IsCertified d t is_gray stands is_extra c × (n ≡ length crossings)

-- the certificate holds
abbrev pub DoesHold : Checked → Type 0
DoesHold (Holds n) = Unit {0}
DoesHold (BadItem line) = ⊥
DoesHold (Bare k) = ⊥
DoesHold (Word w g) = ⊥

-- The net and its domains are such as an audit takes, and the certificate has not too many items.
pub record CanCheck (net : Net) (domains : Domains) (c : Certificate) : Type 0 where
  pub is_net : IsNet net
  pub has_next : HasNextCells net
  pub fits : Fit net domains
  pub is_shared : IsShared net.graph
  pub narrow : AreStartsNarrow net
  pub few : length (entries_of c) ≤ 2 ^ 31
