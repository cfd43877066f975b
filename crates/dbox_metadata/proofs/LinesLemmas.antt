-- Lines that were taken one after another, and where they end.
use Rattle.std.specs.Prelude.{◌≡◌, ◌≢◌, ◌-◌, ℕ, List, [], ◌∷◌, ◌++◌, length, flat_map, Result, Ok, Err, ◌⊎◌}
use Rattle.std.proofs.Common.{sym, inr, ◌∙◌, ap, subst, arith, append_assoc, append-nil, length-append}
use Rattle.std.proofs.lemmas.Grind.{flat_map-append}
use Rattle.model_storage.specs.declared.metadata_value.Metadata.{Metadata}
use Rattle.model_storage.specs.StorageFile.{Line, IsLine, line_text}
use Rattle.model_storage.specs.Metadata.{IsMetadataText, IsFirstBadLine, MayFollow, FollowOneAnother}
use Rattle.model_storage.proofs.MetadataLemmas.{follow_are_lines, metadata_text_same, first_bad_same, no_bad_line}
use Rattle.model_storage.proofs.ReferenceLemmas.{until_same}
use Rattle.dbox_metadata.specs.declared.error.MetaError.{MetaError}
use Rattle.dbox_metadata.specs.declared.error.MetaError.TheVariants.{BadLine, NoMemory}
use Rattle.dbox_metadata.specs.declared.reader.Reader.{Reader}
use Rattle.dbox_metadata.specs.MetadataRead.{MetadataGives}
use Rattle.dbox_metadata.specs.SoFar.{HasTaken, IsNextLine}

-- good lines stand before the rest, and the reader has taken them
pub record TakenBefore (text rest : List ℕ) (reader : Reader) : Type 0 where
  pub good : List Line
  pub parts : text ≡ flat_map line_text good ++ rest
  pub follow : FollowOneAnother [] good
  pub taken : HasTaken good reader

pub follow_more : (before good : List Line) (line : Line) → FollowOneAnother before good → MayFollow (before ++ good) line → FollowOneAnother before (good ++ line ∷ [])
follow_more before [] line f m = (subst (λ (o : List Line). MayFollow o line) (append-nil before) m, tt)
follow_more before (g ∷ good) line f m =
    (f.0, follow_more (before ++ g ∷ []) good line f.1 (subst (λ (o : List Line). MayFollow o line) (sym (append_assoc before (g ∷ []) good)) m))

pub one_more : (text rest behind : List ℕ) (line : Line) (old new : Reader) → (t : TakenBefore text rest old) → IsNextLine rest line behind → MayFollow t.good line → HasTaken (t.good ++ line ∷ []) new → TakenBefore text behind new
one_more text rest behind line old new t next may taken = record {
  good = t.good ++ line ∷ [];
  parts = t.parts ∙ ap (λ (o : List ℕ). flat_map line_text t.good ++ o) next.spelled
      ∙ sym (append_assoc (flat_map line_text t.good) (line_text line) behind)
      ∙ ap (λ (o : List ℕ). o ++ behind) (ap (λ (o : List ℕ). flat_map line_text t.good ++ o) (sym (append-nil (line_text line))) ∙ sym (flat_map-append line_text t.good (line ∷ [])));
  follow = follow_more [] t.good line t.follow may;
  taken = taken;
}

-- at the end the lines say what the reader holds
pub all_taken : (text rest : List ℕ) (reader : Reader) → TakenBefore text rest reader → rest ≡ [] → IsMetadataText text reader.meta
all_taken text rest reader t e = record {
  lines = t.good;
  are = record { each = follow_are_lines [] t.good t.follow; spelled = t.parts ∙ ap (λ (o : List ℕ). flat_map line_text t.good ++ o) e ∙ append-nil _ };
  say = t.taken.say;
}

bad_here : (text rest : List ℕ) (reader : Reader) (t : TakenBefore text rest reader) → rest ≢ [] → ((line : Line) (behind : List ℕ) → rest ≡ line_text line ++ behind → MayFollow t.good line → ⊥) → IsFirstBadLine text (length text - length rest)
bad_here text rest reader t some bad = record {
  good = t.good;
  rest = rest;
  parts = t.parts;
  place = omega (arith, ap length t.parts, length-append (flat_map line_text t.good) rest);
  follow = t.follow;
  more = some;
  bad = bad;
}

-- what stands next is no line
pub no_line : (text rest : List ℕ) (reader : Reader) (t : TakenBefore text rest reader) → rest ≢ [] → ((line : Line) (behind : List ℕ) → IsLine line → rest ≢ line_text line ++ behind) → IsFirstBadLine text (length text - length rest)
no_line text rest reader t some none = bad_here text rest reader t some (λ line behind e may. none line behind may.spelled e)

made_line : ℕ → List ℕ → Line
made_line key value = record { key = key; value = value }

tail_of : List ℕ → List ℕ
tail_of [] = []
tail_of (x ∷ xs) = xs

pub line_same : (l k : Line) (x y : List ℕ) → IsLine l → IsLine k → line_text l ++ x ≡ line_text k ++ y → l ≡ k
unfolding made_line tail_of
line_same l k x y p q e =
    let keys : l.key ≡ k.key = cc e in
    let rest : (l.value ++ 10 ∷ []) ++ x ≡ (k.value ++ 10 ∷ []) ++ y = ap tail_of e in
    let values : l.value ≡ k.value = (until_same 10 l.value k.value x y p.value q.value (sym (append_assoc l.value _ x) ∙ rest ∙ append_assoc k.value _ y)).0 in
    let h : made_line l.key l.value ≡ made_line k.key k.value = cc (keys, values) in
    h

-- what stands next is a line that may not follow
pub bad_line : (text rest behind : List ℕ) (line : Line) (reader : Reader) (t : TakenBefore text rest reader) → rest ≢ [] → IsNextLine rest line behind → (MayFollow t.good line → ⊥) → IsFirstBadLine text (length text - length rest)
bad_line text rest behind line reader t some next bad = bad_here text rest reader t some (λ other more e may.
    bad (subst (λ (o : Line). MayFollow t.good o) (line_same other line more behind may.spelled next.fits (sym e ∙ next.spelled)) may))

-- a reading gives one answer
gives_one : (text : List ℕ) (a b : Result Metadata MetaError) → MetadataGives text a → MetadataGives text b → a ≡ b
gives_one text (Ok m) (Ok n) p q = ap (λ (o : Metadata). Ok o) (metadata_text_same text m n p q)
gives_one text (Ok m) (Err (BadLine offset)) p q = absurd (no_bad_line text m offset p q)
gives_one text (Ok m) (Err NoMemory) p q = absurd q
gives_one text (Err (BadLine offset)) (Ok m) p q = absurd (no_bad_line text m offset q p)
gives_one text (Err (BadLine i)) (Err (BadLine j)) p q = ap (λ (o : ℕ). Err (BadLine o)) (first_bad_same text i j p q)
gives_one text (Err (BadLine i)) (Err NoMemory) p q = absurd q
gives_one text (Err NoMemory) b p q = absurd p

pub exactly : (text : List ℕ) (a : Result Metadata MetaError) → MetadataGives text a → (answer : Result Metadata MetaError) → MetadataGives text answer → (a ≡ Err NoMemory) ⊎ (a ≡ answer)
exactly text a p answer q = inr (gives_one text a answer p q)
