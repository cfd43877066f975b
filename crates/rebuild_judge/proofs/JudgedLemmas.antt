-- All that was found, judged one after another.
use Rattle.std.proofs.Common.{refl, ◌≡◌, ◌<◌, ◌⊎◌, ℕ, List, [], ◌∷◌, ◌++◌, map, max, sym, ◌∙◌, ap, subst, arith, append_assoc, append-nil, inl, inr}
use Rattle.std.proofs.lemmas.Bool.{cases_order}
use Rattle.std.proofs.lemmas.Grind.{flat_map-append}
use Rattle.std.proofs.lemmas.List.{map-append}
use Rattle.std.proofs.lemmas.List.Elements.{Contains-append_cases, Contains-append_left, Contains-push}
use Rattle.std.specs.Prelude.{Contains, flat_map}
use Rattle.disk_model.specs.Disk.{DiskState, Files}
use Rattle.mdbox_base.specs.declared.ids.Guid.{Guid}
use Rattle.model_found.specs.Findings.{FileFinding}
use Rattle.model_octets.proofs.SearchLemmas.{among}
use Rattle.model_rebuild.specs.RebuildPlan.{IsGreatest, IsGuidFound}
use Rattle.model_store.specs.Settled.{files_of}
use Rattle.model_taken.specs.Judging.{Judgement, AreJudged, IsJudgedFinding, taken_by}
use Rattle.model_taken.specs.Rebuild.{skipped_by}
use Rattle.model_taken.specs.Taken.{TakenMessage}
use Rattle.rebuild_judge.specs.declared.taken.Keeping.{Keeping}
use Rattle.rebuild_judge.specs.declared.taken.SkippedAt.{SkippedAt}
use Rattle.rebuild_judge.specs.Judges.{IsNamedFile, IsJudgedNext, NamesFile}
use Rattle.rebuild_judge.specs.Kept.{AreKept, skipped_row}

-- the judgements of what was found so far, and what is kept of them
pub record JudgedTo (store : List ℕ) (files : Files) (found : List FileFinding) (keeping : Keeping) (skipped : List SkippedAt) (file : ℕ) : Type 0 where
  pub judgements : List Judgement
  pub are_judged : AreJudged files [] found judgements
  pub kept : AreKept files (flat_map taken_by judgements) keeping
  pub skipped_are : skipped ≡ map skipped_row (flat_map skipped_by judgements)
  pub greatest : IsGreatest (IsNamedFile store found) file

-- ---- one judgement more

judged_push : (files : Files) (taken : List TakenMessage) (found : List FileFinding) (js : List Judgement) (f : FileFinding) (j : Judgement) → AreJudged files taken found js → IsJudgedFinding files (taken ++ flat_map taken_by js) f.number f.finding j
    → AreJudged files taken (found ++ f ∷ []) (js ++ j ∷ [])
judged_push files taken [] [] f j are is = (subst (λ (ts : List TakenMessage). IsJudgedFinding files ts f.number f.finding j) (append-nil taken) is, tt)
judged_push files taken [] (k ∷ js) f j are is = absurd are
judged_push files taken (g ∷ found) [] f j are is = absurd are
judged_push files taken (g ∷ found) (k ∷ js) f j are is =
    (are.0, judged_push files (taken ++ taken_by k) found js f j are.1 (subst (λ (ts : List TakenMessage). IsJudgedFinding files ts f.number f.finding j) (sym (append_assoc taken (taken_by k) (flat_map taken_by js))) is))

flat_push : {X Y : Type 0} → (f : X → List Y) (xs : List X) (x : X) → flat_map f (xs ++ x ∷ []) ≡ flat_map f xs ++ f x
flat_push {X} {Y} f xs x = flat_map-append f xs (x ∷ []) ∙ ap (λ (ys : List Y). flat_map f xs ++ ys) (append-nil (f x))

-- ---- the greatest number

found_left : (found : List FileFinding) (f : FileFinding) (guid : Guid) → IsGuidFound found guid → IsGuidFound (found ++ f ∷ []) guid
found_left found f guid is = record { number = is.number; place = is.place; message = is.message; meta = is.meta; stands = Contains-append_left found (f ∷ []) _ is.stands; says = is.says; is = is.is }

found_right : (found : List FileFinding) (f : FileFinding) (guid : Guid) → IsGuidFound (f ∷ []) guid → IsGuidFound (found ++ f ∷ []) guid
found_right found f guid is = record { number = is.number; place = is.place; message = is.message; meta = is.meta; stands = one_of (among f [] _ is.stands); says = is.says; is = is.is }
  where
    one_of : {x : FileFinding} → (f ≡ x) ⊎ Contains [] x → Contains (found ++ f ∷ []) x
    one_of (inl e) = subst (Contains (found ++ f ∷ [])) e (Contains-push found f)
    one_of (inr c) = absurd (let k = c.1 in omega (arith, k))

named_either : (store : List ℕ) (found : List FileFinding) (f : FileFinding) (n : ℕ) → IsNamedFile store (found ++ f ∷ []) n → IsNamedFile store found n ⊎ IsNamedFile store (f ∷ []) n
named_either store found f n (guid, is, e) = elim (Contains-append_cases found (f ∷ []) _ is.stands) [
  | inl c ↦ inl (guid, record { number = is.number; place = is.place; message = is.message; meta = is.meta; stands = c; says = is.says; is = is.is }, e)
  | inr c ↦ inr (guid, record { number = is.number; place = is.place; message = is.message; meta = is.meta; stands = c; says = is.says; is = is.is }, e)
]

greatest_more : (store : List ℕ) (found : List FileFinding) (f : FileFinding) (old n new : ℕ) → IsGreatest (IsNamedFile store found) old → NamesFile store f n → new ≡ max n old → IsGreatest (IsNamedFile store (found ++ f ∷ [])) new
greatest_more store found f old n new was names e = record {
  most = λ m is. elim (named_either store found f m is) [
    | inl before ↦ (let a = was.most m before in omega (arith, a, e))
    | inr here ↦ (let a = names.most m here in omega (arith, a, e))
  ];
  reached = by_order (cases_order n old);
}
  where
    left : (m : ℕ) → IsNamedFile store found m → IsNamedFile store (found ++ f ∷ []) m
    left m (guid, is, at) = (guid, found_left found f guid is, at)

    right : (m : ℕ) → IsNamedFile store (f ∷ []) m → IsNamedFile store (found ++ f ∷ []) m
    right m (guid, is, at) = (guid, found_right found f guid is, at)

    old_one : new ≡ old → (old ≡ 0) ⊎ IsNamedFile store found old → (new ≡ 0) ⊎ IsNamedFile store (found ++ f ∷ []) new
    old_one s (inl z) = inl (s ∙ z)
    old_one s (inr is) = inr (subst (IsNamedFile store (found ++ f ∷ [])) (sym s) (left old is))

    new_one : new ≡ n → (n ≡ 0) ⊎ IsNamedFile store (f ∷ []) n → (new ≡ 0) ⊎ IsNamedFile store (found ++ f ∷ []) new
    new_one s (inl z) = inl (s ∙ z)
    new_one s (inr is) = inr (subst (IsNamedFile store (found ++ f ∷ [])) (sym s) (right n is))

    by_order : (n ≡ old) ⊎ ((n < old) ⊎ (old < n)) → (new ≡ 0) ⊎ IsNamedFile store (found ++ f ∷ []) new
    by_order (inl same) = old_one (omega (arith, same, e)) was.reached
    by_order (inr (inl less)) = old_one (omega (arith, less, e)) was.reached
    by_order (inr (inr more)) = new_one (omega (arith, more, e)) names.reached

-- ---- all of it

pub judged_begins : (store : List ℕ) (files : Files) (keeping : Keeping) (skipped : List SkippedAt) → AreKept files [] keeping → skipped ≡ [] → JudgedTo store files [] keeping skipped 0
judged_begins store files keeping skipped kept none = record {
  judgements = [];
  are_judged = tt;
  kept = kept;
  skipped_are = none;
  greatest = record { most = λ m is. absurd (let k = is.1.stands.1 in omega (arith, k)); reached = inl refl };
}

pub judged_more : (store : List ℕ) (disk : DiskState) (found : List FileFinding) (f : FileFinding) (old new : Keeping) (before after : List SkippedAt) (file most : ℕ) → (was : JudgedTo store (files_of disk) found old before file)
    → IsJudgedNext store disk f (flat_map taken_by was.judgements) new before after file most → JudgedTo store (files_of disk) (found ++ f ∷ []) new after most
judged_more store disk found f old new before after file most was next =
    let j = next.judgement in
    record {
      judgements = was.judgements ++ j ∷ [];
      are_judged = judged_push (files_of disk) [] found was.judgements f j was.are_judged next.is_judged;
      kept = subst (λ (ts : List TakenMessage). AreKept (files_of disk) ts new) (sym (flat_push taken_by was.judgements j)) next.kept;
      skipped_are =
          next.skipped ∙ (ap (λ (ss : List SkippedAt). ss ++ map skipped_row (skipped_by j)) was.skipped_are
          ∙ (sym (map-append skipped_row (flat_map skipped_by was.judgements) (skipped_by j)) ∙ ap (map skipped_row) (sym (flat_push skipped_by was.judgements j))));
      greatest = greatest_more store found f file next.named most was.greatest next.names next.greatest;
    }
