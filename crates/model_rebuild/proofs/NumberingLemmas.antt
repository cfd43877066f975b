-- The numbers and generations of a plan: they are one, and in range.
use Rattle.std.specs.Prelude.{◌≡◌, ◌≤◌, ◌<◌, ◌==◌, ◌&&◌, ◌^◌, ℕ, Bool, true, false, not, if◌then◌else◌, refl, List, take, drop, Option, Some}
use Rattle.std.proofs.Common.{inl, inr, sym, ◌∙◌, subst, arith, lit≤}
use Rattle.std.proofs.lemmas.Bool.{eqb-false}
use Rattle.std.proofs.lemmas.List.Elements.{All-from_get_or, All-take, All-drop}
use Rattle.disk_model.specs.Disk.{Files}
use Rattle.hex.proofs.HexLemmas.{decode_of-ok}
use Rattle.mdbox_base.specs.Words.{IsNumber, IsOctets}
use Rattle.mdbox_base.specs.declared.entries.Highest.{Highest}
use Rattle.mdbox_base.specs.declared.ids.Guid.{Guid}
use Rattle.model_found.specs.Findings.{FileFinding}
use Rattle.model_logs.proofs.LogHeadLemmas.{number_below}
use Rattle.model_meaning.specs.MapMeaning.{number_at, own_number, is_own}
use Rattle.model_storage.specs.Metadata.{HasAtMostOneReadable, IsGuidText}
use Rattle.model_storage.specs.StorageFile.{Line}
use Rattle.model_rebuild.specs.RebuildPlan.{IsGreatest, IsFileNumber, IsInstanceNumber, AreHighestFound, IsFreeGeneration}

-- ---- one

not_above : (Has : ℕ → Type 0) (m n : ℕ) → IsGreatest Has m → IsGreatest Has n → m ≤ n
not_above Has m n a b = elim a.reached [
  | inl zero ↦ omega (arith, zero)
  | inr has ↦ b.most m has
]

greatest_same : (Has : ℕ → Type 0) (m n : ℕ) → IsGreatest Has m → IsGreatest Has n → m ≡ n
greatest_same Has m n a b = let p = not_above Has m n a b in let q = not_above Has n m b a in omega (arith, p, q)

highest_of : ℕ → ℕ → ℕ → ℕ → Highest
highest_of file map instance mailbox = record { file = file; map = map; instance = instance; mailbox = mailbox }

pub highest_same : (files : Files) (store : List ℕ) (found : List FileFinding) (h k : Highest) → AreHighestFound files store found h → AreHighestFound files store found k → h ≡ k
unfolding highest_of
highest_same files store found h k a b =
    let f = greatest_same (IsFileNumber files store found) h.file k.file a.files_are b.files_are in
    let i = greatest_same (IsInstanceNumber files store) h.instance k.instance a.instances_are b.instances_are in
    let m : h.map ≡ k.map = a.map_is ∙ sym b.map_is in
    let x : h.mailbox ≡ k.mailbox = a.mailbox_is ∙ sym b.mailbox_is in
    let e : highest_of h.file h.map h.instance h.mailbox ≡ highest_of k.file k.map k.instance k.mailbox = cc in e

pub generation_same : (IsUsed : ℕ → Type 0) (m n : ℕ) → IsFreeGeneration IsUsed m → IsFreeGeneration IsUsed n → m ≡ n
generation_same IsUsed m n (inl a) (inl b) = let p = a.2 n b.0 b.1 in let q = b.2 m a.0 a.1 in omega (arith, p, q)
generation_same IsUsed m n (inl a) (inr b) = absurd (a.1 (b.0 m a.0))
generation_same IsUsed m n (inr a) (inl b) = absurd (b.1 (a.0 n b.0))
generation_same IsUsed m n (inr a) (inr b) = a.1 ∙ sym b.1

-- ---- in range

pub free_is_number : (IsUsed : ℕ → Type 0) (n : ℕ) → IsFreeGeneration IsUsed n → IsNumber n
free_is_number IsUsed n (inl h) = h.0
free_is_number IsUsed n (inr h) = let e = h.1 in record { low = omega (arith, e); high = omega (arith, e) }

-- the highest numbers as a map log may begin with them
pub record HighestInRange (h : Highest) : Type 0 where
  pub file : h.file ≤ 4294967294
  pub instance : h.instance ≤ 4294967294
  pub map : h.map ≡ 0
  pub mailbox : h.mailbox ≡ 0

own_low : (own : Bool) (n : ℕ) → n < 2 ^ 32 → own_number own n ≤ 4294967294
own_low false n h = lit≤ tt
own_low true n h = by_test (n == 4294967295) refl
  where
    by_test : (b : Bool) → (n == 4294967295) ≡ b → (if true && not b then n else 0) ≤ 4294967294
    by_test true e = lit≤ tt
    by_test false e = let apart = eqb-false n 4294967295 e in omega (arith, h, apart)

number_low : (own : Bool) (place : ℕ) (octets : List ℕ) → IsOctets octets → own_number own (number_at place octets) ≤ 4294967294
number_low own place octets are =
    own_low own (number_at place octets) (number_below (take 4 (drop place octets)) (All-take (λ octet. octet < 256) 4 (drop place octets) (All-drop (λ octet. octet < 256) place octets are)))

guid_octets : (lines : List Line) (o : Option Guid) (guid : Guid) → o ≡ Some guid → HasAtMostOneReadable IsGuidText 71 lines o → IsOctets guid.0
guid_octets lines o guid e h =
    let text = subst (λ (x : Option Guid). HasAtMostOneReadable IsGuidText 71 lines x) e h in
    let bytes = (decode_of-ok text.0 guid.0 text.2.octets).3 in
    All-from_get_or (λ octet. octet < 256) guid.0 0 (λ i l. bytes i)

reached_low : (Has : ℕ → Type 0) (n : ℕ) → IsGreatest Has n → (Has n → n ≤ 4294967294) → n ≤ 4294967294
reached_low Has n g low = elim g.reached [
  | inl zero ↦ omega (arith, zero)
  | inr has ↦ low has
]

file_low : (files : Files) (store : List ℕ) (found : List FileFinding) (n : ℕ) → IsFileNumber files store found n → n ≤ 4294967294
file_low files store found n (inl is) = is.0.high
file_low files store found n (inr named) =
    let low = number_low (is_own store named.0.0) 8 named.0.0 (guid_octets named.1.message.lines named.1.meta.guid named.0 named.1.is named.1.says.guid) in
    let e = named.2 in
    omega (arith, low, e)

pub highest_in_range : (files : Files) (store : List ℕ) (found : List FileFinding) (h : Highest) → AreHighestFound files store found h → HighestInRange h
highest_in_range files store found h are = record {
  file = reached_low (IsFileNumber files store found) h.file are.files_are (file_low files store found h.file);
  instance = reached_low (IsInstanceNumber files store) h.instance are.instances_are (λ has.
      let low = number_low (is_own store has.1 && (number_at 8 has.1 == 4294967295)) 12 has.1 has.2.3 in
      let e = has.4 in
      omega (arith, low, e));
  map = are.map_is;
  mailbox = are.mailbox_is;
}
