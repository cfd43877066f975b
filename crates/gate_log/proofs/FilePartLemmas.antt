-- A change of a file that stands still, and its sync: a cut, or one octet written over another.
use Rattle.std.proofs.Common.{◌≡◌, ℕ, ◌<◌, List, [], ◌∷◌, ◌++◌, length, Option, Some, true, All, sym, ◌∙◌, subst, ap, append-nil, length-append, arith}
use Rattle.std.proofs.Math.Seq.{take-append_seam, drop-append_seam}
use Rattle.std.proofs.lemmas.List.Elements.{All-take, All-append, All-cons, All-tail, All-drop}
use Rattle.disk_model.specs.Disk.{FileState, History, IsThere, Reaches, Keeps, IfTold, after, change, cut_to, half_cut, written, half_written, synced, reading}
use Rattle.disk_model.specs.declared.name.FileName.{FileName}
use Rattle.disk_model.proofs.MomentLemmas.{if_told-map}
use Rattle.disk_model.proofs.ChangeAndSyncLemmas.{Can, CanNow, changed_state, state}
use Rattle.disk_model.proofs.FirmLemmas.{IsFirm, firm_from_keeps, keeps_from_firm, synced_firm, reading_from_there, reads_there, cut_to_left, half_cut_left, cut_octets, one_written_left, one_half_left, one_octets}
use Rattle.gate_log.specs.Log.{ReadsParts, KeepsParts, BeginsWith, IsOneBetween}

abbrev AreOctets : List ℕ → Type 0
AreOctets text = All (λ octet. octet < 256) text

front_octets : (a b : List ℕ) → AreOctets (a ++ b) → AreOctets a
front_octets a b are = subst AreOctets (take-append_seam a b) (All-take (λ o. o < 256) (length a) (a ++ b) are)

back_octets : (a b : List ℕ) → AreOctets (a ++ b) → AreOctets b
back_octets a b are = subst AreOctets (drop-append_seam a b) (All-drop (λ o. o < 256) (length a) (a ++ b) are)

-- a cut

cut_firm : (f : FileState) (a b : List ℕ) → IsFirm f (a ++ b) → IsFirm (synced (cut_to (length a) f)) a
cut_firm f a b k = synced_firm (cut_to (length a) f) a k.there k.name (cut_octets f a b k.octets) (front_octets a b k.are_octets)

cut_can : (name : FileName) (f : FileState) (size : ℕ) (a b : List ℕ) → KeepsParts size a b f → Can name (cut_to size) (half_cut size) (BeginsWith a) f
cut_can name f size a b p =
    let k : IsFirm f (a ++ b) = firm_from_keeps f (a ++ b) p.keeps in
    subst (λ (n : ℕ). Can name (cut_to n) (half_cut n) (BeginsWith a) f) (sym p.size_is) (record {
      before = λ left h. (b, (p.keeps.leaves left).0 h);
      halved = λ left h. half_cut_left f a b k left h;
      changed = λ left h. cut_to_left f a b k left h;
      settled = λ left h. ([], ((keeps_from_firm _ _ (cut_firm f a b k)).leaves left).0 h ∙ ap Some (sym (append-nil a)));
      there = k.there;
    })

pub cut-can : (name : FileName) (old : Option History) (size : ℕ) (a b : List ℕ) → IfTold old (λ now. KeepsParts size a b (now name)) → CanNow name (cut_to size) (half_cut size) (BeginsWith a) old
cut-can name old size a b h = if_told-map _ _ old (λ disk p. cut_can name (disk name) size a b p) h

pub cut-ask : (name : FileName) (old : Option History) (size : ℕ) (a b : List ℕ) → IfTold old (λ now. ReadsParts size a b (now name)) → IfTold old (λ disk. Reaches (disk name) size)
cut-ask name old size a b h = if_told-map _ _ old (λ disk p.
    let t = reads_there (disk name) (a ++ b) p.reads in
    (t.0, let l : length (disk name).octets ≡ length (a ++ b) = ap length t.1 in let e : size ≡ length a = p.size_is in omega (arith, l, e, length-append a b))) h

record Stood (octets : List ℕ) (f : FileState) : Type 0 where
  pub there : f.is_there ≡ true
  pub is : f.octets ≡ octets

cut_stood : (f : FileState) (size : ℕ) (a b : List ℕ) → ReadsParts size a b f → Stood a (cut_to size f)
cut_stood f size a b p =
    let t = reads_there f (a ++ b) p.reads in
    subst (λ (n : ℕ). Stood a (cut_to n f)) (sym p.size_is) (record { there = t.0; is = cut_octets f a b t.1 })

stood-reads : (octets : List ℕ) (f : FileState) → Stood octets f → reading f ≡ Some octets
stood-reads octets f s = reading_from_there f s.there ∙ ap Some s.is

pub cut-there : (name : FileName) (old mid : Option History) (size : ℕ) (a b : List ℕ) → IfTold old (λ now. ReadsParts size a b (now name)) → mid ≡ after (change name (cut_to size)) old → IfTold mid (λ disk. IsThere (disk name))
cut-there name old mid size a b h is = changed_state name (ReadsParts size a b) IsThere (cut_to size) old mid is (λ f p. (cut_stood f size a b p).there) h

pub cut-reads : (name : FileName) (old mid new : Option History) (size : ℕ) (a b : List ℕ) → IfTold old (λ now. ReadsParts size a b (now name)) → mid ≡ after (change name (cut_to size)) old → new ≡ after (change name synced) mid
    → IfTold new (λ now. reading (now name) ≡ Some a)
cut-reads name old mid new size a b h is synced_is =
    state name (ReadsParts size a b) (λ f. reading f ≡ Some a) (cut_to size) old mid new is synced_is
    (λ f p. let s = cut_stood f size a b p in stood-reads a (synced (cut_to size f)) (record { there = s.there; is = s.is })) h

pub cut-keeps : (name : FileName) (old mid new : Option History) (size : ℕ) (a b : List ℕ) → IfTold old (λ now. KeepsParts size a b (now name)) → mid ≡ after (change name (cut_to size)) old → new ≡ after (change name synced) mid
    → IfTold new (λ now. Keeps (now name) a)
cut-keeps name old mid new size a b h is synced_is =
    state name (KeepsParts size a b) (λ f. Keeps f a) (cut_to size) old mid new is synced_is
    (λ f p. subst (λ (n : ℕ). Keeps (synced (cut_to n f)) a) (sym p.size_is) (keeps_from_firm _ _ (cut_firm f a b (firm_from_keeps f (a ++ b) p.keeps)))) h

-- one octet

one_firm : (f : FileState) (a b : List ℕ) (x y : ℕ) → y < 256 → IsFirm f (a ++ x ∷ b) → IsFirm (synced (written (length a) (y ∷ []) f)) (a ++ y ∷ b)
one_firm f a b x y small k =
    synced_firm (written (length a) (y ∷ []) f) (a ++ y ∷ b) k.there k.name (one_octets f a b x y k.octets)
    (All-append (λ o. o < 256) a (y ∷ b) (front_octets a (x ∷ b) k.are_octets) (All-cons (λ o. o < 256) y b small (All-tail (λ o. o < 256) x b (back_octets a (x ∷ b) k.are_octets))))

one_can : (name : FileName) (f : FileState) (size : ℕ) (a b : List ℕ) (x y : ℕ) → y < 256 → KeepsParts size a (x ∷ b) f → Can name (written size (y ∷ [])) (half_written size 1) (IsOneBetween a b) f
one_can name f size a b x y small p =
    let k : IsFirm f (a ++ x ∷ b) = firm_from_keeps f (a ++ x ∷ b) p.keeps in
    subst (λ (n : ℕ). Can name (written n (y ∷ [])) (half_written n 1) (IsOneBetween a b) f) (sym p.size_is) (record {
      before = λ left h. (x, (p.keeps.leaves left).0 h);
      halved = λ left h. one_half_left f a b x k left h;
      changed = λ left h. one_written_left f a b x y k left h;
      settled = λ left h. (y, ((keeps_from_firm _ _ (one_firm f a b x y small k)).leaves left).0 h);
      there = k.there;
    })

pub one-can : (name : FileName) (old : Option History) (size : ℕ) (a b : List ℕ) (x y : ℕ) → y < 256 → IfTold old (λ now. KeepsParts size a (x ∷ b) (now name)) → CanNow name (written size (y ∷ [])) (half_written size 1) (IsOneBetween a b) old
one-can name old size a b x y small h = if_told-map _ _ old (λ disk p. one_can name (disk name) size a b x y small p) h

one_stood : (f : FileState) (size : ℕ) (a b : List ℕ) (x y : ℕ) → ReadsParts size a (x ∷ b) f → Stood (a ++ y ∷ b) (written size (y ∷ []) f)
one_stood f size a b x y p =
    let t = reads_there f (a ++ x ∷ b) p.reads in
    subst (λ (n : ℕ). Stood (a ++ y ∷ b) (written n (y ∷ []) f)) (sym p.size_is) (record { there = t.0; is = one_octets f a b x y t.1 })

pub one-there : (name : FileName) (old mid : Option History) (size : ℕ) (a b : List ℕ) (x y : ℕ) → IfTold old (λ now. ReadsParts size a (x ∷ b) (now name)) → mid ≡ after (change name (written size (y ∷ []))) old → IfTold mid (λ disk. IsThere (disk name))
one-there name old mid size a b x y h is = changed_state name (ReadsParts size a (x ∷ b)) IsThere (written size (y ∷ [])) old mid is (λ f p. (one_stood f size a b x y p).there) h

pub one-reads : (name : FileName) (old mid new : Option History) (size : ℕ) (a b : List ℕ) (x y : ℕ) → IfTold old (λ now. ReadsParts size a (x ∷ b) (now name)) → mid ≡ after (change name (written size (y ∷ []))) old → new ≡ after (change name synced) mid
    → IfTold new (λ now. reading (now name) ≡ Some (a ++ y ∷ b))
one-reads name old mid new size a b x y h is synced_is =
    state name (ReadsParts size a (x ∷ b)) (λ f. reading f ≡ Some (a ++ y ∷ b)) (written size (y ∷ [])) old mid new is synced_is
    (λ f p. let s = one_stood f size a b x y p in stood-reads (a ++ y ∷ b) (synced (written size (y ∷ []) f)) (record { there = s.there; is = s.is })) h

pub one-keeps : (name : FileName) (old mid new : Option History) (size : ℕ) (a b : List ℕ) (x y : ℕ) → y < 256 → IfTold old (λ now. KeepsParts size a (x ∷ b) (now name)) → mid ≡ after (change name (written size (y ∷ []))) old → new ≡ after (change name synced) mid
    → IfTold new (λ now. Keeps (now name) (a ++ y ∷ b))
one-keeps name old mid new size a b x y small h is synced_is =
    state name (KeepsParts size a (x ∷ b)) (λ f. Keeps f (a ++ y ∷ b)) (written size (y ∷ [])) old mid new is synced_is
    (λ f p. subst (λ (n : ℕ). Keeps (synced (written n (y ∷ []) f)) (a ++ y ∷ b)) (sym p.size_is) (keeps_from_firm _ _ (one_firm f a b x y small (firm_from_keeps f (a ++ x ∷ b) p.keeps)))) h
