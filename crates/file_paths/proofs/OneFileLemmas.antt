-- No two files of a store have one path.
use Rattle.std.specs.Prelude.{◌≡◌, ◌==◌, ◌++◌, ℕ, List, false, codes, slice_index, refl}
use Rattle.std.proofs.Common.{sym, ◌∙◌, ap, arith}
use Rattle.std.proofs.lemmas.Fmt.{decimal_injective}
use Rattle.std.proofs.lemmas.Bool.{eqb-false}
use Rattle.hex.specs.Hex.{encode_lower}
use Rattle.disk_model.specs.declared.name.FileName.TheVariants as file
use Rattle.mdbox_base.specs.Numbers.{decimal_text}
use Rattle.mdbox_base.specs.Words.{IsNumber}
use Rattle.file_paths.specs.Paths.{path_text, IsStoreFile}
use Rattle.model_octets.proofs.PiecesLemmas.{split_same}
use Rattle.model_storage.proofs.ReferenceLemmas.{number_until, hex_same}
use Rattle.file_paths.specs.OneFile.{HaveOwnPaths}
use Rattle.file_paths.proofs.InstLemmas.{inst_text, named, same_digits}
use Rattle.file_paths.proofs.ReadLemmas.{middle_same, regroup}

-- texts that differ at a place
apart_at : (i : ℕ) (x y : List ℕ) → x ≡ y → (slice_index x i == slice_index y i) ≡ false → ⊥
apart_at i x y e apart = eqb-false (slice_index x i) (slice_index y i) apart (ap (λ (l : List ℕ). slice_index l i) e)

number_same : (m n : ℕ) → IsNumber m → IsNumber n → decimal_text m ≡ decimal_text n → m ≡ n
number_same m n hm hn e = decimal_injective m n (omega (arith, hm.high)) (omega (arith, hn.high)) e

map_same : (m n : ℕ) → IsNumber m → IsNumber n → path_text (file.Map m) ≡ path_text (file.Map n) → file.Map m ≡ file.Map n
map_same m n hm hn e = ap (λ (o : ℕ). file.Map o) (number_same m n hm hn (middle_same (codes "storage/map.") (codes ".log") (decimal_text m) (decimal_text n) e))

mail_same : (m n : ℕ) → IsNumber m → IsNumber n → path_text (file.Mail m) ≡ path_text (file.Mail n) → file.Mail m ≡ file.Mail n
mail_same m n hm hn e = ap (λ (o : ℕ). file.Mail o) (number_same m n hm hn (split_same (codes "storage/m.") (codes "storage/m.") (decimal_text m) (decimal_text n) refl e).1)

box_same : (k g l h : ℕ) → IsNumber k → IsNumber g → IsNumber l → IsNumber h → path_text (file.Box k g) ≡ path_text (file.Box l h) → file.Box k g ≡ file.Box l h
box_same k g l h nk ng nl nh e =
    let numbers = middle_same (codes "mailboxes/b.") (codes ".log") _ _ (sym (regroup (decimal_text k) (decimal_text g)) ∙ e ∙ regroup (decimal_text l) (decimal_text h)) in
    let r = number_until 46 k l (decimal_text g) (decimal_text h) refl (omega (arith, nk.high)) (omega (arith, nl.high)) numbers in
    let s : g ≡ h = number_same g h ng nh r.1 in
    ap (λ (o : ℕ). file.Box o g) r.0 ∙ ap (λ (o : ℕ). file.Box l o) s

inst_same : (a i b j : List ℕ) → IsStoreFile (file.Inst a i) → IsStoreFile (file.Inst b j) → path_text (file.Inst a i) ≡ path_text (file.Inst b j) → file.Inst a i ≡ file.Inst b j
inst_same a i b j ha hb e =
    let n = named (slice_index a 0) (slice_index a 1) (encode_lower a ++ (codes "-" ++ encode_lower i)) b j (ha.1 0 0 (omega (arith, ha.0))) (ha.1 1 0 (omega (arith, ha.0))) hb
    (sym (inst_text a i (omega (arith, ha.0))) ∙ e) in
    let r = same_digits 45 a b (encode_lower i) (encode_lower j) (omega arith) ha.1 hb.1 n.2 in
    let s : i ≡ j = hex_same i j ha.3 hb.3 r.1 in
    ap (λ (o : List ℕ). file.Inst o i) r.0 ∙ ap (λ (o : List ℕ). file.Inst b o) s

pub own_paths : HaveOwnPaths
own_paths file.Root file.Root p q e = refl
own_paths file.Root (file.Map m) p q e = absurd (apart_at 8 _ _ e refl)
own_paths file.Root (file.Box k g) p q e = absurd (apart_at 0 _ _ e refl)
own_paths file.Root (file.Mail m) p q e = absurd (apart_at 8 _ _ e refl)
own_paths file.Root (file.Inst a i) p q e = absurd (apart_at 0 _ _ e refl)
own_paths (file.Map m) file.Root p q e = absurd (apart_at 8 _ _ e refl)
own_paths (file.Map m) (file.Map n) p q e = map_same m n p q e
own_paths (file.Map m) (file.Box k g) p q e = absurd (apart_at 0 _ _ e refl)
own_paths (file.Map m) (file.Mail n) p q e = absurd (apart_at 9 _ _ e refl)
own_paths (file.Map m) (file.Inst a i) p q e = absurd (apart_at 0 _ _ e refl)
own_paths (file.Box k g) file.Root p q e = absurd (apart_at 0 _ _ e refl)
own_paths (file.Box k g) (file.Map m) p q e = absurd (apart_at 0 _ _ e refl)
own_paths (file.Box k g) (file.Box l h) p q e = box_same k g l h p.0 p.1 q.0 q.1 e
own_paths (file.Box k g) (file.Mail m) p q e = absurd (apart_at 0 _ _ e refl)
own_paths (file.Box k g) (file.Inst a i) p q e = absurd (apart_at 0 _ _ e refl)
own_paths (file.Mail m) file.Root p q e = absurd (apart_at 8 _ _ e refl)
own_paths (file.Mail m) (file.Map n) p q e = absurd (apart_at 9 _ _ e refl)
own_paths (file.Mail m) (file.Box k g) p q e = absurd (apart_at 0 _ _ e refl)
own_paths (file.Mail m) (file.Mail n) p q e = mail_same m n p q e
own_paths (file.Mail m) (file.Inst a i) p q e = absurd (apart_at 0 _ _ e refl)
own_paths (file.Inst a i) file.Root p q e = absurd (apart_at 0 _ _ e refl)
own_paths (file.Inst a i) (file.Map m) p q e = absurd (apart_at 0 _ _ e refl)
own_paths (file.Inst a i) (file.Box k g) p q e = absurd (apart_at 0 _ _ e refl)
own_paths (file.Inst a i) (file.Mail m) p q e = absurd (apart_at 0 _ _ e refl)
own_paths (file.Inst a i) (file.Inst b j) p q e = inst_same a i b j p q e
