-- The logs of a new store, one after another, and the disk that they make.
use Rattle.std.proofs.Common.{◌≡◌, ◌≢◌, inl, inr, ℕ, ◌+◌, ◌≤◌, false, max, List, [], ◌∷◌, ◌++◌, length, All, Option, Some, None, refl, sym, ◌∙◌, ap, subst, append-nil, length-append, arith, lit≤, lit<, codes}
use Rattle.std.proofs.lemmas.Bool.{cases_Bool, cond-true, cond-false}
use Rattle.std.proofs.lemmas.List.Elements.{All-nil, All-cons}
use Rattle.disk_model.specs.Disk.{Files, FileState, DiskState, History, MayLeave, IsImage, IsThere, Keeps, IfTold, EachImage, OthersStay, reading, named, no_file}
use Rattle.disk_model.specs.declared.name.FileName.{FileName}
use Rattle.disk_model.specs.declared.name.FileName.TheVariants as file
use Rattle.disk_model.proofs.MomentLemmas.{if_told-all, if_told-map, if_told-both, each_image-map}
use Rattle.disk_model.proofs.OneFileLemmas.{named-narrows}
use Rattle.disk_model.proofs.FirmLemmas.{IsFirm, firm_from_keeps, keeps_from_firm}
use Rattle.model_logs.specs.declared.log_head.LogHead.{LogHead}
use Rattle.model_logs.specs.LogFile.{HeadFits, EntryFits, head_octets, IsLog, IsLogFile}
use Rattle.model_logs.proofs.LogFileLemmas.{head_length}
use Rattle.model_logs.specs.Entries.{root_text, map_text}
use Rattle.model_meaning.specs.MapMeaning.{MapRecord, MapBox, map_meaning}
use Rattle.model_store.specs.Stands.{HasLog, HasRoot}
use Rattle.model_store.proofs.StandsLemmas.{root_same}
use Rattle.model_store.specs.Safe.{SafeBy}
use Rattle.model_store.specs.Settled.{files_of, HasSameRegion, HasSameInstance, AreAlike, IsSettled}
use Rattle.model_store.specs.Opening.{HasNoEntry, IsNewStore, first_root, first_box, empty_inbox}
use Rattle.model_store.proofs.NewStoreLemmas.{new_safe, new_safe_by}
use Rattle.gate_log.specs.State.{LogState}
use Rattle.gate_log.specs.Log.{IsLogHeld, Holds, IsAtMostAsLong, NamedButFor, log_text}
use Rattle.store_open.specs.Making.{IsBeingMade, NeverHasEntry, IsEmptyDisk, IsMadeStore, HasNothingOrInbox, new_root_head, new_map_head, inbox_head}
use Rattle.store_open.proofs.OldLogLemmas.{never-no_file}
use Rattle.store_open.proofs.NewLogLemmas.{IsMaking}

-- a file whose name is synced

named-gone : (f : FileState) → (IsThere f → ⊥) → named f ≡ no_file
named-gone f gone = elim (cases_Bool f.is_there) [
  | inl there ↦ absurd (gone there)
  | inr not ↦ cond-false f.is_there (record f { is_name_loose = false }) no_file not
]

named-kept : (f : FileState) (octets : List ℕ) → Keeps f octets → Keeps (named f) octets
named-kept f octets k = record {
  reads = elim (cases_Bool f.is_there) [
    | inl there ↦ subst (λ (g : FileState). reading g ≡ Some octets) (sym (cond-true f.is_there (record f { is_name_loose = false }) no_file there)) k.reads
    | inr not ↦ absurd (let none : reading f ≡ None = cond-false f.is_there (Some f.octets) None not in let e : None ≡ Some octets = sym none ∙ k.reads in cc)
  ];
  leaves = λ left. (
    λ leaves. (k.leaves left).0 (named-narrows f left leaves),
    λ e. back (firm_from_keeps f octets k) left e,
  );
}
  where
    back : IsFirm f octets → (left : Option (List ℕ)) → left ≡ Some octets → MayLeave (named f) left
    back firm left e =
        let g : named f ≡ record f { is_name_loose = false } = cond-true f.is_there (record f { is_name_loose = false }) no_file firm.there in
        ((keeps_from_firm (named f) octets (subst (λ (s : FileState). IsFirm s octets) (sym g)
        (record { there = firm.there; octets = firm.octets; least = firm.least; greatest = firm.greatest; firm = firm.firm; name = refl; are_octets = firm.are_octets }))).leaves left).1 e

-- states, when one log was made and names were synced
made-on : (P K Q : DiskState → Type 0) (name : FileName) (old new : Option History) → ((a b : DiskState) → ((other : FileName) → other ≢ name → b other ≡ named (a other)) → P a → K b → Q b)
    → NamedButFor name old new → IfTold old P → IfTold new K → IfTold new Q
made-on P K Q name None new f is p k = subst (λ (h : Option History). IfTold h Q) (sym is) tt
made-on P K Q name (Some old) None f is p k = elim is [ ]
made-on P K Q name (Some old) (Some new) f is p k = f old.now new.now is p k

-- what a held log keeps
held-keeps : (log : LogState) (name : FileName) (head : LogHead) (entries : List (List ℕ)) (disk : DiskState) → log.name ≡ name → log.head ≡ head → IsLogHeld log entries disk → Keeps (disk name) (log_text head entries)
held-keeps log name head entries disk n h k =
    subst (λ (o : FileName). Keeps (disk o) (log_text head entries)) n (subst (λ (o : LogHead). Keeps (disk log.name) (log_text o entries)) h k.keeps)

-- the mailbox log is made
pub record HasInbox (store : List ℕ) (disk : DiskState) : Type 0 where
  pub fits : HeadFits (inbox_head store)
  pub inbox : Keeps (disk (file.Box 1 1)) (log_text (inbox_head store) [])
  pub nothing_else : (name : FileName) → name ≢ file.Box 1 1 → disk name ≡ no_file

inbox-first : (store : List ℕ) (log : LogState) → log.name ≡ file.Box 1 1 → log.head ≡ inbox_head store → (a b : DiskState) → ((other : FileName) → other ≢ file.Box 1 1 → b other ≡ named (a other)) → IsEmptyDisk a → IsLogHeld log [] b → HasInbox store b
inbox-first store log n h a b is bare k = record {
  fits = subst HeadFits h k.reads.head_fits;
  inbox = held-keeps log (file.Box 1 1) (inbox_head store) [] b n h k;
  nothing_else = λ name apart. is name apart ∙ named-gone (a name) (bare name);
}

pub has-inbox : (store : List ℕ) (log : LogState) (old new : Option History) → log.name ≡ file.Box 1 1 → log.head ≡ inbox_head store → NamedButFor (file.Box 1 1) old new → IfTold old IsEmptyDisk → IfTold new (IsLogHeld log []) → IfTold new (HasInbox store)
has-inbox store log old new n h is bare k = made-on IsEmptyDisk (IsLogHeld log []) (HasInbox store) (file.Box 1 1) old new (inbox-first store log n h) is bare k

-- and the map log
pub record HasMapLog (store : List ℕ) (disk : DiskState) : Type 0 where
  pub fits : HeadFits (inbox_head store)
  pub inbox : Keeps (disk (file.Box 1 1)) (log_text (inbox_head store) [])
  pub map_log : Keeps (disk (file.Map 1)) (log_text (new_map_head store) (map_text first_box ∷ []))
  pub nothing_else : (name : FileName) → name ≢ file.Map 1 → name ≢ file.Box 1 1 → disk name ≡ no_file

box-map : file.Box 1 1 ≢ file.Map 1
box-map e = let h : file.Box 1 1 ≡ file.Map 1 = e in cc

box-root : file.Box 1 1 ≢ file.Root
box-root e = let h : file.Box 1 1 ≡ file.Root = e in cc

map-root : file.Map 1 ≢ file.Root
map-root e = let h : file.Map 1 ≡ file.Root = e in cc

map-second : (store : List ℕ) (log : LogState) → log.name ≡ file.Map 1 → log.head ≡ new_map_head store → (a b : DiskState) → ((other : FileName) → other ≢ file.Map 1 → b other ≡ named (a other)) → HasInbox store a → IsLogHeld log (map_text first_box ∷ []) b → HasMapLog store b
map-second store log n h a b is p k = record {
  fits = p.fits;
  inbox = subst (λ (f : FileState). Keeps f (log_text (inbox_head store) [])) (sym (is (file.Box 1 1) box-map)) (named-kept (a (file.Box 1 1)) (log_text (inbox_head store) []) p.inbox);
  map_log = held-keeps log (file.Map 1) (new_map_head store) (map_text first_box ∷ []) b n h k;
  nothing_else = λ name other apart. is name other ∙ ap named (p.nothing_else name apart);
}

pub has-map : (store : List ℕ) (log : LogState) (old new : Option History) → log.name ≡ file.Map 1 → log.head ≡ new_map_head store → NamedButFor (file.Map 1) old new → IfTold old (HasInbox store) → IfTold new (IsLogHeld log (map_text first_box ∷ [])) → IfTold new (HasMapLog store)
has-map store log old new n h is p k = made-on (HasInbox store) (IsLogHeld log (map_text first_box ∷ [])) (HasMapLog store) (file.Map 1) old new (map-second store log n h) is p k

-- and last the root log
root-last : (store : List ℕ) (log : LogState) → log.name ≡ file.Root → log.head ≡ new_root_head store → (a b : DiskState) → ((other : FileName) → other ≢ file.Root → b other ≡ named (a other)) → HasMapLog store a → IsLogHeld log (root_text first_root ∷ []) b → IsMadeStore store b
root-last store log n h a b is p k = record {
  root_log = held-keeps log file.Root (new_root_head store) (root_text first_root ∷ []) b n h k;
  map_log = subst (λ (f : FileState). Keeps f (log_text (new_map_head store) (map_text first_box ∷ []))) (sym (is (file.Map 1) map-root)) (named-kept (a (file.Map 1)) (log_text (new_map_head store) (map_text first_box ∷ [])) p.map_log);
  inbox = subst (λ (f : FileState). Keeps f (log_text (inbox_head store) [])) (sym (is (file.Box 1 1) box-root)) (named-kept (a (file.Box 1 1)) (log_text (inbox_head store) []) p.inbox);
  nothing_else = λ name root other apart. is name root ∙ ap named (p.nothing_else name other apart);
}

pub is-made : (store : List ℕ) (log : LogState) (old new : Option History) → log.name ≡ file.Root → log.head ≡ new_root_head store → NamedButFor file.Root old new → IfTold old (HasMapLog store) → IfTold new (IsLogHeld log (root_text first_root ∷ [])) → IfTold new (IsMadeStore store)
is-made store log old new n h is p k = made-on (HasMapLog store) (IsLogHeld log (root_text first_root ∷ [])) (IsMadeStore store) file.Root old new (root-last store log n h) is p k

-- a log that is held stays so, when another is made
held-named : (log : LogState) (entries : List (List ℕ)) (name : FileName) → log.name ≢ name → (a b : DiskState) → ((other : FileName) → other ≢ name → b other ≡ named (a other)) → IsLogHeld log entries a → IsLogHeld log entries b
held-named log entries name apart a b is k =
    let kept : Keeps (b log.name) (log_text log.head entries) = subst (λ (f : FileState). Keeps f (log_text log.head entries)) (sym (is log.name apart)) (named-kept (a log.name) (log_text log.head entries) k.keeps) in
    record { reads = record { file = kept.reads; end = k.reads.end; count = k.reads.count; head_fits = k.reads.head_fits; entries_fit = k.reads.entries_fit }; keeps = kept }

pub holds-named : (log : LogState) (entries : List (List ℕ)) (own name : FileName) (old new : Option History) → log.name ≡ own → own ≢ name → NamedButFor name old new → Holds log entries old → Holds log entries new
holds-named log entries own name old new e apart is k =
    made-on (IsLogHeld log entries) (λ _. Unit {0}) (IsLogHeld log entries) name old new
    (λ a b same held u. held-named log entries name (λ at. apart (sym e ∙ at)) a b same held) is k (if_told-all _ new (λ disk. tt))

-- what images have

pub box-is-no-map : file.Box 1 1 ≢ file.Map 1
box-is-no-map = box-map

pub box-is-no-root : file.Box 1 1 ≢ file.Root
box-is-no-root = box-root

pub map-is-no-root : file.Map 1 ≢ file.Root
map-is-no-root = map-root

-- while another log is made, the root log has no entry
pub without-root : (store : List ℕ) (Q : Files → Type 0) (name : FileName) (old new : Option History) → name ≢ file.Root → IfTold old (λ disk. NeverHasEntry (disk file.Root))
    → EachImage (λ _ image. Q image × OthersStay name old image) old new → EachImage (λ _ image. HasNothingOrInbox store image) old new
without-root store Q name None new apart never each = each
without-root store Q name (Some old) new apart never each =
    each_image-map _ _ (Some old) new (λ m image is. inl (never (image file.Root) (is.1 file.Root (λ e. apart (sym e))))) each

inbox-never : (store : List ℕ) (disk : DiskState) → HasInbox store disk → NeverHasEntry (disk file.Root)
inbox-never store disk p = subst NeverHasEntry (sym (p.nothing_else file.Root (λ e. box-root (sym e)))) never-no_file

pub inbox-nevers : (store : List ℕ) (h : Option History) → IfTold h (HasInbox store) → IfTold h (λ disk. NeverHasEntry (disk file.Root))
inbox-nevers store h p = if_told-map _ _ h (inbox-never store) p

short-none : (f : FileState) (left : Option (List ℕ)) → f ≡ no_file → IsAtMostAsLong 26 f left → HasNoEntry left
short-none f None gone short = tt
short-none f (Some octets) gone short =
    let g : f.greatest ≡ 0 = ap (λ (s : FileState). s.greatest) gone in
    let l : length octets ≤ max f.greatest 26 = short in
    inl (omega arith)

log-none : (head : LogHead) (left : Option (List ℕ)) → IsLogFile left head [] → HasNoEntry left
log-none head None l = absurd l
log-none head (Some octets) l =
    let e : octets ≡ head_octets head ++ l.gate ∷ l.behind = l.spelled ∙ ap (λ (t : List ℕ). t ++ l.gate ∷ l.behind) (append-nil (head_octets head)) in
    elim l.ends [
      | inl shut ↦ inr (record { head = head; fits = l.head_fits; gate = l.gate; behind = l.behind; spelled = e; closed = shut })
      | inr nothing ↦
          let n : length octets ≡ length (head_octets head) + length (l.gate ∷ l.behind) = ap length e ∙ length-append (head_octets head) (l.gate ∷ l.behind) in
          inl (omega (arith, n, head_length head l.head_fits, ap length nothing))
    ]

has-log : (image : Files) (name : FileName) (head : LogHead) (entries : List (List ℕ)) (left : Option (List ℕ)) → image name ≡ left → IsLogFile left head entries → HasLog image name head entries
has-log image name head entries None e l = absurd l
has-log image name head entries (Some octets) e l = record { octets = octets; there = e; whole = l }

text-log : (head : LogHead) (entries : List (List ℕ)) → HeadFits head → All EntryFits entries → IsLog (log_text head entries) head entries
text-log head entries f e = record { head_fits = f; entries_fit = e; gate = 0; behind = []; spelled = refl; ends = inr refl }

map-fits : (store : List ℕ) → HeadFits (inbox_head store) → HeadFits (new_map_head store)
map-fits store f = record { version = refl; store = f.store; octets = f.octets; number = lit< tt; generation = lit< tt }

first-fits : All EntryFits (map_text first_box ∷ [])
first-fits = All-cons EntryFits (map_text first_box) [] (record { some = lit≤ tt; short = lit< tt }) (All-nil EntryFits)

kept-left : (f : FileState) (octets : List ℕ) (left : Option (List ℕ)) → Keeps f octets → MayLeave f left → left ≡ Some octets
kept-left f octets left k leaves = (k.leaves left).0 leaves

new-store : (store : List ℕ) (disk : DiskState) (image : Files) → HasMapLog store disk → ((other : FileName) → other ≢ file.Root → MayLeave (disk other) (image other))
    → IsLogFile (image file.Root) (new_root_head store) (root_text first_root ∷ []) → IsNewStore image store
new-store store disk image p stay root = record {
  root_log = has-log image file.Root (new_root_head store) (root_text first_root ∷ []) (image file.Root) refl root;
  map_log = record {
    octets = log_text (new_map_head store) (map_text first_box ∷ []);
    there = kept-left (disk (file.Map 1)) (log_text (new_map_head store) (map_text first_box ∷ [])) (image (file.Map 1)) p.map_log (stay (file.Map 1) map-root);
    whole = text-log (new_map_head store) (map_text first_box ∷ []) (map-fits store p.fits) first-fits;
  };
  inbox = record {
    octets = log_text (inbox_head store) [];
    there = kept-left (disk (file.Box 1 1)) (log_text (inbox_head store) []) (image (file.Box 1 1)) p.inbox (stay (file.Box 1 1) box-root);
    whole = text-log (inbox_head store) [] p.fits (All-nil EntryFits);
  };
}

root-image : (store : List ℕ) (disk : DiskState) (image : Files) → HasMapLog store disk → IsBeingMade (new_root_head store) (root_text first_root) (disk file.Root) (image file.Root)
    → ((other : FileName) → other ≢ file.Root → MayLeave (disk other) (image other)) → HasNothingOrInbox store image
root-image store disk image p (inl short) stay = inl (short-none (disk file.Root) (image file.Root) (p.nothing_else file.Root (λ e. map-root (sym e)) (λ e. box-root (sym e))) short)
root-image store disk image p (inr (inl empty)) stay = inl (log-none (new_root_head store) (image file.Root) empty)
root-image store disk image p (inr (inr full)) stay = let n = new-store store disk image p stay full in inr (n, new_safe image store n)

-- while the root log is made, it has no entry, or the store is there
pub with-root : (store : List ℕ) (head : LogHead) (entry : List ℕ) (old new : Option History) → head ≡ new_root_head store → entry ≡ root_text first_root → IfTold old (HasMapLog store)
    → EachImage (λ _ image. IsMaking file.Root head entry old image) old new → EachImage (λ _ image. HasNothingOrInbox store image) old new
with-root store head entry None new h e p each = each
with-root store head entry (Some old) new h e p each =
    let F : LogHead → List ℕ → Type 0 = λ o t. EachImage (λ _ image. IsMaking file.Root o t (Some old) image) (Some old) new in
    each_image-map _ _ (Some old) new (λ m image is. root-image store old.now image p is.0 is.1)
    (subst (λ (t : List ℕ). F (new_root_head store) t) e (subst (λ (o : LogHead). F o entry) h each))

-- the disk is settled

pub made-new : (store : List ℕ) (disk : DiskState) → IsMadeStore store disk → HeadFits (inbox_head store) → IsNewStore (files_of disk) store
made-new store disk m f = record {
  root_log = record { octets = log_text (new_root_head store) (root_text first_root ∷ []); there = m.root_log.reads; whole = text-log (new_root_head store) (root_text first_root ∷ []) (root-fits store f) root-entry-fits };
  map_log = record { octets = log_text (new_map_head store) (map_text first_box ∷ []); there = m.map_log.reads; whole = text-log (new_map_head store) (map_text first_box ∷ []) (map-fits store f) first-fits };
  inbox = record { octets = log_text (inbox_head store) []; there = m.inbox.reads; whole = text-log (inbox_head store) [] f (All-nil EntryFits) };
}
  where
    root-fits : (store : List ℕ) → HeadFits (inbox_head store) → HeadFits (new_root_head store)
    root-fits store f = record { version = refl; store = f.store; octets = f.octets; number = lit< tt; generation = lit< tt }

    root-entry-fits : All EntryFits (root_text first_root ∷ [])
    root-entry-fits = All-cons EntryFits (root_text first_root) [] (record { some = lit≤ tt; short = lit< tt }) (All-nil EntryFits)

same-left : (disk : DiskState) (image : Files) (name : FileName) (octets : List ℕ) → Keeps (disk name) octets → IsImage disk image → image name ≡ files_of disk name
same-left disk image name octets k is = kept-left (disk name) octets (image name) k (is name) ∙ sym k.reads

settled : (store : List ℕ) (disk : DiskState) → IsMadeStore store disk → HeadFits (inbox_head store) → IsSettled disk empty_inbox
settled store disk m f =
    let n : IsNewStore (files_of disk) store = made-new store disk m f in
    let safe : SafeBy (files_of disk) store (first_box ∷ []) empty_inbox = new_safe_by (files_of disk) store n in
    let root : HasRoot (files_of disk) store 1 = record { before = []; log = n.root_log; in_range = (lit< tt, tt) } in
    let one : safe.stands.map_log.generation ≡ 1 = (root_same (files_of disk) store store safe.stands.map_log.generation 1 safe.stands.map_log.root root).1 in
    record {
      store = store;
      entries = first_box ∷ [];
      safe = safe;
      alike = λ image is. subst (λ (g : ℕ). AreAlike g (map_meaning store (first_box ∷ [])) (files_of disk) image) (sym one) (record {
        root = same-left disk image file.Root (log_text (new_root_head store) (root_text first_root ∷ [])) m.root_log is;
        map = same-left disk image (file.Map 1) (log_text (new_map_head store) (map_text first_box ∷ [])) m.map_log is;
        boxes = All-cons (λ (box : MapBox). image (file.Box box.number box.generation) ≡ files_of disk (file.Box box.number box.generation)) (record { number = 1; generation = 1; name = codes "INBOX" }) []
            (same-left disk image (file.Box 1 1) (log_text (inbox_head store) []) m.inbox is) (All-nil (λ (box : MapBox). image (file.Box box.number box.generation) ≡ files_of disk (file.Box box.number box.generation)));
        regions = All-nil (HasSameRegion (files_of disk) image);
        instances = All-nil (λ (row : MapRecord). All (HasSameInstance (files_of disk) image) row.instances);
      });
    }

pub is-settled : (store : List ℕ) (log : LogState) (entries : List (List ℕ)) (h : Option History) → log.head ≡ inbox_head store → IfTold h (IsMadeStore store) → Holds log entries h → IfTold h (λ disk. IsSettled disk empty_inbox)
is-settled store log entries h e m k = if_told-both _ _ _ h (λ disk made held. settled store disk made (subst HeadFits e held.reads.head_fits)) m k
