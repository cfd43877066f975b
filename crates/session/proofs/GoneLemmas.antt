-- How a session ends: what was read, done and told by then.
use Rattle.std.specs.Prelude.{Bool, if◌then◌else◌, ◌⊎◌, ◌≤◌, ◌<◌, ◌+◌, suc, drop, length, map, nat_eq, take, IfSome}
use Rattle.std.specs.List.{AllByRecursion, count_by, list_any}
use Rattle.std.proofs.Common.{◌≡◌, ◌++◌, ℕ, zero, true, false, List, [], ◌∷◌, Option, Some, None, refl, sym, ◌∙◌, ap, subst, arith, inl, inr}
use Rattle.std.proofs.lemmas.List.{append-nil, append_assoc}
use Rattle.std.proofs.lemmas.List.Elements.{All-append}
use Rattle.disk_model.specs.Disk.{Faults, History, IfTold, IsMoment}
use Rattle.mdbox_base.specs.Streams.{Appended, IsAtEnd, Taken}
use Rattle.mdbox_base.specs.declared.replies.Refusal.TheVariants as refused
use Rattle.mdbox_base.specs.declared.replies.Reply.{Reply}
use Rattle.mdbox_base.specs.declared.replies.Reply.TheVariants as reply
use Rattle.mdbox_base.specs.declared.requests.Request.{Request}
use Rattle.mdbox_base.specs.declared.script.JournalEntry.{JournalEntry}
use Rattle.model_kept.proofs.KeptLemmas.{ReadsImage}
use Rattle.model_lists.specs.Lists.{Lists}
use Rattle.journal.specs.Journal.{HasReply, Requests, no_broken}
use Rattle.piece_writer.specs.Pieces.{WritesPrefix}
use Rattle.serving.specs.Serving.{AreIdle}
use Rattle.store_core.specs.Running.{IsStore}
use Rattle.store_core.specs.Value.{indexes_of}
use Rattle.mail_fetch.specs.Task.{seen_in}
use Rattle.lanes.specs.Asked.{GoesWith, asked_in}
use Rattle.lanes.specs.Going.{AreFreshRows}
use Rattle.lanes.specs.Rows.{lanes_of}
use Rattle.lanes.specs.Worlds.{GoesInRounds, GoesOnBy, IsWorldOf, KeepsWorld, WorldValue}
use Rattle.lanes.proofs.TraceLemmas.{as_finished}
use Rattle.lanes.proofs.WithLemmas.{follow, keep_with, rounds_own}
use Rattle.request_text.specs.BatchText.{batch_text}
use Rattle.request_text.specs.Outcomes.{is_disk_no, is_lack, is_no, replies_outcome}
use Rattle.request_text.specs.declared.outcome.InputRefusal.TheVariants as refusal
use Rattle.request_text.specs.declared.outcome.Outcome.{Outcome}
use Rattle.request_text.specs.declared.outcome.Outcome.TheVariants as outcome
use Rattle.script_text.specs.Flaws.{IsFlawOf, IsNeeded}
use Rattle.script_text.specs.Script.{BeginsNoRequest, FitsLanes, request_text, script_text}
use Rattle.script_text.specs.Taking.{OfSource, extent}
use Rattle.script_text.specs.declared.flaw.ScriptFlaw.{ScriptFlaw}
use Rattle.script_run.specs.Opening.{LogsShowLists}
use Rattle.script_run.specs.OpenScript.{IsStoreOpened}
use Rattle.script_run.specs.Script.{HasStopped}
use Rattle.script_run.proofs.DoneLemmas.{LanesEnd, RunLeft, at_given, done_run, given_at}
use Rattle.script_run.proofs.EndLemmas.{all_given}
use Rattle.script_run.proofs.RunBeginsLemmas.{before_opening, beginning}
use Rattle.script_run.proofs.ShownLemmas.{LogsShow}
use Rattle.session.specs.OneRequest.{EndsSession, EndsByRequest, FindsNone, HaveReplies, IsAnswered, IsUnderWay, last_text}
use Rattle.session.specs.Rounds.{HasGone, HasServed}
use Rattle.session.specs.Session.{EndsAtStop, IsLeftInSource, IsSessionDone, ShowsLines, SessionStopsAt, StopsAtEnd}
use Rattle.session.proofs.LeftLemmas.{left_of_session}
use Rattle.session.proofs.TellLemmas.{OneMore, ToldInOrder, appended_then, asked_more, fits_more, moves_of, none_left_over, one_more, reply_more, text_more, text_on}

-- ---- the end of the last request's events

-- A world that has every reply has no event left.
pub no_rounds : {D : Type 0} → (last : ℕ) (turns : List ℕ) (new final : WorldValue D) (before after : Option History) (first second : Faults) → HaveReplies new.replies → GoesInRounds last turns new final before after first second → final ≡ new
no_rounds last [] new final before after first second each g = g.0
no_rounds last (lane ∷ turns) new final before after first second each g = absurd (none_left_over new.replies g.4.works.event.place each g.4.works.unanswered)

-- What is known of a session at its end: the opening, the world that began then, and the events that finished the last request.
pub record SessionEnded {D : Type 0} (history : D → Option History) (faults : D → Faults) (old : Option History) (world new final : WorldValue D) : Type 0 where
  pub opened : IsStoreOpened old (history world.store.disk) world.store
  pub reads : IfTold (history world.store.disk) ReadsImage
  pub reads_last : IfTold (history final.store.disk) ReadsImage
  pub show : LogsShow
  pub fresh : AreFreshRows [] world.rows
  pub unturned : world.turns ≡ []
  pub none : world.replies ≡ []
  pub made_is : IsMoment (history world.store.disk) world.began
  pub begins : (start : Lists) → LogsShowLists world.store.map (indexes_of world.store.boxes) start
      → IsWorldOf start [] (beginning world.store.map opened.store.entries) [] no_broken (before_opening (seen_in world.store (history world.store.disk) (faults world.store.disk)) old) (history world.store.disk) (faults world.store.disk) world
  pub turns : List ℕ
  pub ends : GoesOnBy turns new final (history new.store.disk) (history final.store.disk) (faults new.store.disk) (faults final.store.disk)
  pub keeps : KeepsWorld new final (history new.store.disk) (history final.store.disk) (faults new.store.disk) (faults final.store.disk)
  pub replied : HaveReplies final.replies
  pub idle : AreIdle (lanes_of final.rows)
  pub later : IsStore (history final.store.disk) final.store
  pub short : length final.replies ≤ 100000
  pub law : LanesEnd D

-- ---- no reply says that the store is stopped, but the last

some_front : (xs : List (Option Reply)) (y : Option Reply) (i : ℕ) (one : Reply) → HasReply xs i one → HasReply (xs ++ y ∷ []) i one
some_front [] y i one at = absurd (let e : None ≡ Some (Some one) = at in cc e)
some_front (x ∷ xs) y zero one at = at
some_front (x ∷ xs) y (suc i) one at = some_front xs y i one at

drop_last : {X : Type 0} → (xs ys : List X) (x y : X) → xs ++ x ∷ [] ≡ ys ++ y ∷ [] → xs ≡ ys
drop_last [] [] x y e = refl
drop_last [] (b ∷ []) x y e = absurd (cc e)
drop_last [] (b ∷ c ∷ ys) x y e = absurd (cc e)
drop_last (a ∷ []) [] x y e = absurd (cc e)
drop_last (a ∷ c ∷ xs) [] x y e = absurd (cc e)
drop_last (a ∷ xs) (b ∷ ys) x y e =
    let h : a ≡ b = cc e in
    let t : xs ++ x ∷ [] ≡ ys ++ y ∷ [] = cc e in
    cc (h, drop_last xs ys x y t)

map_last : (earlier : List Reply) (last : Reply) → map Some (earlier ++ last ∷ []) ≡ map Some earlier ++ Some last ∷ []
map_last [] last = refl
map_last (x ∷ earlier) last = ap (λ (os : List (Option Reply)). Some x ∷ os) (map_last earlier last)

-- none of them does
abbrev pub NoneStops : List (Option Reply) → Type 0
NoneStops replies = (place : ℕ) → HasReply replies place (reply.Refused refused.Stopped) → ⊥

none_stops : (given : List Reply) (replies : List (Option Reply)) → replies ≡ map Some given → NoneStops replies → HasStopped given → ⊥
none_stops given replies are none h = let i = at_given given (reply.Refused refused.Stopped) h in none i.0 (subst (λ (rs : List (Option Reply)). HasReply rs i.0 (reply.Refused refused.Stopped)) (sym are) i.1)

none_but_last : (given : List Reply) (replies : List (Option Reply)) → replies ≡ map Some given → NoneStops replies → EndsAtStop given
none_but_last given replies are none earlier last is h =
    let i = at_given earlier (reply.Refused refused.Stopped) h in
    let same : map Some earlier ++ Some last ∷ [] ≡ replies = sym (map_last earlier last) ∙ (ap (map Some) (sym is) ∙ sym are) in
    none i.0 (subst (λ (rs : List (Option Reply)). HasReply rs i.0 (reply.Refused refused.Stopped)) same (some_front (map Some earlier) (Some last) i.0 (reply.Refused refused.Stopped) i.1))

only_last_stops : (given : List Reply) (replies : List (Option Reply)) (own : Reply) → replies ++ Some own ∷ [] ≡ map Some given → NoneStops replies → EndsAtStop given
only_last_stops given replies own are none earlier last is h =
    let same : map Some earlier ≡ replies = drop_last (map Some earlier) replies (Some last) (Some own) (sym (map_last earlier last) ∙ (ap (map Some) (sym is) ∙ sym are)) in
    none_stops earlier replies (sym same) none h

has_last : (replies : List (Option Reply)) (own : Reply) → HasReply (replies ++ Some own ∷ []) (length replies) own
has_last [] own = refl
has_last (x ∷ replies) own = has_last replies own

-- ---- what was left of the input

-- Of a source, after this text, this was left; it is what was behind the text of a longer one.
pub read_on : (left between : Option (List ℕ)) (text r : List ℕ) → Taken left text between → IfSome between (λ all. all ≡ r) → IfSome left (λ all. all ≡ text ++ r)
read_on left None text r taken is = subst (λ (o : Option (List ℕ)). IfSome o (λ all. all ≡ text ++ r)) (sym taken) tt
read_on left (Some rest) text r taken is = subst (λ (o : Option (List ℕ)). IfSome o (λ all. all ≡ text ++ r)) (sym taken) (ap (λ (t : List ℕ). text ++ t) is)

-- what is left of a source, or nothing, where it isn't modelled
what_left : (between : Option (List ℕ)) → (r : List ℕ) × IfSome between (λ all. all ≡ r)
what_left None = ([], tt)
what_left (Some rest) = (rest, refl)

same_left : (rest between : Option (List ℕ)) (r : List ℕ) → rest ≡ between → IfSome between (λ all. all ≡ r) → IsLeftInSource r rest
same_left rest between r same is = subst (λ (o : Option (List ℕ)). IsLeftInSource r o) (sym same) is

ended_left : (between rest : Option (List ℕ)) → IsAtEnd between → rest ≡ between → IsLeftInSource [] rest
ended_left between rest end same = subst (λ (o : Option (List ℕ)). IsLeftInSource [] o) (sym same) end

-- ---- a prefix is told

pub whole_prefix : (held later : Option (List ℕ)) (text : List ℕ) → Appended held text later → WritesPrefix held [] text later
whole_prefix held later text a = (text, [], sym (append-nil text), a)

first_prefix : (held told later : Option (List ℕ)) (text more all : List ℕ) → all ≡ text ++ more → Appended held text told → later ≡ told → WritesPrefix held [] all later
first_prefix held told later text more all is a same = (text, more, is, subst (λ (o : Option (List ℕ)). Appended held text o) (sym same) a)

then_prefix : (held told later : Option (List ℕ)) (text more all : List ℕ) → all ≡ text ++ more → Appended held text told → WritesPrefix told [] more later → WritesPrefix held [] all later
then_prefix held told later text more all is a p = (text ++ p.0, p.1, is ∙ (ap (λ (t : List ℕ). text ++ t) p.2 ∙ sym (append_assoc text p.0 p.1)), appended_then held told later text p.0 a p.3)

-- how a session ends at the input's end, it isn't that it is full
never : (a b c : Bool) → outcome.SessionFull ≡ (if a then outcome.DiskFault else (if b then outcome.NoMemory else (if c then outcome.No else outcome.Done))) → ⊥
never true b c e = cc e
never false true c e = cc e
never false false true e = cc e
never false false false e = cc e

never_full : (replies : List (Option Reply)) → outcome.SessionFull ≡ replies_outcome replies → ⊥
never_full replies e = never (list_any is_disk_no replies) (list_any is_lack replies) (list_any is_no replies) e

-- ---- a flaw

drop_text : (a b : List ℕ) → drop (length a) (a ++ b) ≡ b
drop_text [] b = refl
drop_text (x ∷ a) b = drop_text a b

take_text : (a b : List ℕ) → take (length a) (a ++ b) ≡ a
take_text [] b = refl
take_text (x ∷ a) b = ap (λ (t : List ℕ). x ∷ t) (take_text a b)

flawed : (script : Requests) (rest : List ℕ) (flaw : ScriptFlaw) → length script ≤ 100000 → AllByRecursion (FitsLanes 64) script → flaw.offset ≡ length (script_text script) → flaw.line ≡ 1 + count_by (λ octet. nat_eq octet 10) (script_text script)
    → 0 < length rest → BeginsNoRequest 64 rest → IsNeeded 64 rest flaw.need → IsFlawOf 64 (script_text script ++ rest) flaw
flawed script rest flaw few fits at line some none needed =
    let input : List ℕ = script_text script ++ rest in
    record {
      bad = (script, rest, record { few = few; each = fits; spelled = refl; goes_on = some; wrong = inl none }, at);
      line_is = line ∙ ap (λ (t : List ℕ). 1 + count_by (λ octet. nat_eq octet 10) t) (sym (take_text (script_text script) rest) ∙ ap (λ (n : ℕ). take n input) (sym at));
      need_is = subst (λ (t : List ℕ). IsNeeded 64 t flaw.need) (sym (drop_text (script_text script) rest) ∙ ap (λ (n : ℕ). drop n input) (sym at)) needed;
    }

-- ---- the session

module _ {D : Type 0} (history : D → Option History) (faults : D → Faults) (old : Option History) (world new final : WorldValue D) (left rest held later : Option (List ℕ)) (e : SessionEnded history faults old world new final) (order : ToldInOrder) where
  -- so a session is done, if it ends so
  abbrev Done : Outcome → Type 0
  Done ended = OfSource left (λ octets. IsSessionDone octets rest held later old (history final.store.disk) (faults world.store.disk) (faults final.store.disk) ended)

  left_of : (moves : List (ℕ × Option Request)) → GoesWith history faults moves world new → RunLeft (asked_in moves) old (history world.store.disk) (history final.store.disk) (faults world.store.disk) (faults final.store.disk) world.store final
  left_of moves goes =
      let k = keep_with history faults moves world new goes in
      let same = e.keeps.requests in
      let grown = k.3 in
      let none : length world.replies ≡ 0 = ap length e.none in
      left_of_session history faults (asked_in moves) old world new final (record {
        opened = e.opened;
        reads = e.reads;
        reads_last = e.reads_last;
        show = e.show;
        fresh = e.fresh;
        unturned = e.unturned;
        made_is = e.made_is;
        begins = e.begins;
        moves = moves;
        script_is = refl;
        goes = goes;
        turns = e.turns;
        ends = e.ends;
        same_began = e.keeps.began ∙ k.2;
        many = omega (arith, same, grown, none);
        replied = e.replied;
        idle = e.idle;
        later = e.later;
        law = e.law;
      })

  assemble : (moves : List (ℕ × Option Request)) (r : List ℕ) (ended : Outcome) → GoesWith history faults moves world new → AllByRecursion (FitsLanes 64) (asked_in moves) → IfSome left (λ all. all ≡ script_text (asked_in moves) ++ r)
      → ShowsLines (batch_text final.journal final.replies) held later ended → ((given : List Reply) → final.replies ≡ map Some given → EndsAtStop given × SessionStopsAt (script_text (asked_in moves) ++ r) (asked_in moves) r rest given ended) → Done ended
  assemble moves r ended goes fits read told stops =
      let l = left_of moves goes in
      let g = all_given final.replies e.replied in
      let s = stops g.0 g.1 in (
        script_text (asked_in moves) ++ r,
        read,
        record {
          script = asked_in moves;
          rest = r;
          read = refl;
          fits = fits;
          given = g.0;
          journal = final.journal;
          done = done_run (asked_in moves) old (history world.store.disk) (history final.store.disk) (faults world.store.disk) (faults final.store.disk) world.store final l g.0 g.1;
          last = s.0;
          printed = subst (λ (rs : List (Option Reply)). ShowsLines (batch_text final.journal rs) held later ended) g.1 told;
          stops = s.1;
        },
      )

  -- a world that has every reply is only finished
  as_it_was : HaveReplies new.replies → final ≡ as_finished new
  as_it_was each = no_rounds 0 e.turns (as_finished new) final (history new.store.disk) (history final.store.disk) (faults new.store.disk) (faults final.store.disk) each e.ends

  module _ (moves : List (ℕ × Option Request)) (mid : WorldValue D) (between told : Option (List ℕ)) (s : HasServed history faults moves world mid left between held told) where
    few : length mid.replies ≡ length (asked_in moves)
    few =
        let grown = (keep_with history faults moves world mid s.goes).3 in
        let none : length world.replies ≡ 0 = ap length e.none in
        omega (arith, grown, none)

    -- nothing has come since
    module _ (still : new ≡ mid) (unsaid : later ≡ told) where
      final_is : final ≡ as_finished mid
      final_is = as_it_was (subst (λ (w : WorldValue D). HaveReplies w.replies) (sym still) s.waits.replied) ∙ ap as_finished still

      replies_are : final.replies ≡ mid.replies
      replies_are = ap (λ (w : WorldValue D). w.replies) final_is

      goes_still : GoesWith history faults moves world new
      goes_still = subst (λ (w : WorldValue D). GoesWith history faults moves world w) (sym still) s.goes

      text_told : Appended held (batch_text final.journal final.replies) later
      text_told = subst (λ (w : WorldValue D). Appended held (batch_text w.journal w.replies) later) (sym final_is) (subst (λ (o : Option (List ℕ)). Appended held (batch_text mid.journal mid.replies) o) (sym unsaid) s.printed)

      unstopped : (given : List Reply) → final.replies ≡ map Some given → HasStopped given → ⊥
      unstopped given are = none_stops given mid.replies (sym replies_are ∙ are) s.waits.running

      last_alone : (given : List Reply) → final.replies ≡ map Some given → EndsAtStop given
      last_alone given are = none_but_last given mid.replies (sym replies_are ∙ are) s.waits.running

      at_end : (ended : Outcome) → IsAtEnd between → rest ≡ between → ended ≡ replies_outcome mid.replies → (ShowsLines (batch_text final.journal final.replies) held later ended) → ((given : List Reply) → StopsAtEnd [] rest given ended → SessionStopsAt (script_text (asked_in moves) ++ []) (asked_in moves) [] rest given ended) → Done ended
      at_end ended end same is shown stops =
          assemble moves [] ended goes_still s.fits (read_on left between (script_text (asked_in moves)) [] s.taken end) shown
          (λ given are. (last_alone given are, stops given (refl, ended_left between rest end same, unstopped given are, is ∙ ap replies_outcome (sym replies_are ∙ are))))

      finds_none : (ended : Outcome) → FindsNone mid between rest (extent (script_text (asked_in moves))) ended → length mid.replies ≤ 100000 → Done ended
      finds_none (outcome.InputRefused (refusal.Script flaw)) f short =
          let all = f.2.0 in
          let many = few in
          assemble moves all (outcome.InputRefused (refusal.Script flaw)) goes_still s.fits (read_on left between (script_text (asked_in moves)) all s.taken f.2.1) text_told
          (λ given are. (last_alone given are, (f.2.2.0, f.2.2.1, flawed (asked_in moves) all flaw (omega (arith, short, many)) s.fits f.0 f.1 f.2.2.0 f.2.2.1 f.2.2.2, f.0, unstopped given are)))
      finds_none outcome.ReadFault f short =
          let w = what_left between in
          assemble moves w.0 outcome.ReadFault goes_still s.fits (read_on left between (script_text (asked_in moves)) w.0 s.taken w.1) text_told (λ given are. (last_alone given are, unstopped given are))
      finds_none outcome.NoMemory f short =
          let w = what_left between in
          assemble moves w.0 outcome.NoMemory goes_still s.fits (read_on left between (script_text (asked_in moves)) w.0 s.taken w.1) (whole_prefix held later (batch_text final.journal final.replies) text_told) (λ given are. (last_alone given are, tt))
      finds_none outcome.WriteFault f short = at_end outcome.WriteFault f.0 f.1 f.2 (whole_prefix held later (batch_text final.journal final.replies) text_told) (λ given stop. tt)
      finds_none outcome.DiskFault f short = at_end outcome.DiskFault f.0 f.1 f.2 text_told (λ given stop. inr stop)
      finds_none outcome.SessionFull f short = absurd (never_full mid.replies f.2)
      finds_none outcome.Done f short = at_end outcome.Done f.0 f.1 f.2 text_told (λ given stop. stop)
      finds_none outcome.No f short = at_end outcome.No f.0 f.1 f.2 text_told (λ given stop. stop)
      finds_none outcome.Usage f short = at_end outcome.Usage f.0 f.1 f.2 text_told (λ given stop. stop)
      finds_none (outcome.StoreRefused why) f short = at_end (outcome.StoreRefused why) f.0 f.1 f.2 text_told (λ given stop. stop)
      finds_none (outcome.InputRefused (refusal.TooLong limit)) f short = at_end (outcome.InputRefused (refusal.TooLong limit)) f.0 f.1 f.2 text_told (λ given stop. stop)
      finds_none (outcome.InputRefused (refusal.File why)) f short = at_end (outcome.InputRefused (refusal.File why)) f.0 f.1 f.2 text_told (λ given stop. stop)
      finds_none (outcome.InputRefused (refusal.Log place)) f short = at_end (outcome.InputRefused (refusal.Log place)) f.0 f.1 f.2 text_told (λ given stop. stop)

      is_full : length (asked_in moves) ≡ 100000 → rest ≡ between → Done outcome.SessionFull
      is_full many same =
          let w = what_left between in
          assemble moves w.0 outcome.SessionFull goes_still s.fits (read_on left between (script_text (asked_in moves)) w.0 s.taken w.1) text_told
          (λ given are. (last_alone given are, (many, same_left rest between w.0 same w.1, unstopped given are)))

    -- with one request more
    module _ (asked : ℕ × Request) (fits : FitsLanes 64 asked) (taken : Taken between (request_text asked) rest) where
      begun_with : (ended : Outcome) → (u : IsUnderWay history faults asked mid new) → (own : Reply) → HasReply final.replies (length mid.replies) own → (r : List ℕ) → IfSome rest (λ all. all ≡ r) → ShowsLines (batch_text final.journal final.replies) held later ended
          → ((given : List Reply) → final.replies ≡ mid.replies ++ Some own ∷ [] → final.replies ≡ map Some given → SessionStopsAt (script_text (asked_in moves ++ asked ∷ []) ++ r) (asked_in moves ++ asked ∷ []) r rest given ended) → Done ended
      begun_with ended u own here r is shown stops =
          let m = one_more history faults asked mid new s.waits.replied u in
          let many = m.many in
          let same = e.keeps.requests in
          let are = reply_more mid.replies final.replies own s.waits.replied (λ i one at. e.keeps.replies i one (m.stay i one at)) (omega (arith, many, same)) here in
          let script = asked_more moves asked u.lanes in
          let text : script_text (asked_in (moves ++ moves_of asked u.lanes)) ≡ script_text (asked_in moves) ++ request_text asked = ap script_text script ∙ text_more (asked_in moves) asked in
          let input : IfSome left (λ all. all ≡ script_text (asked_in moves) ++ (request_text asked ++ r)) = read_on left between (script_text (asked_in moves)) (request_text asked ++ r) s.taken (read_on between rest (request_text asked) r taken is) in
          assemble (moves ++ moves_of asked u.lanes) r ended (follow history faults moves (moves_of asked u.lanes) world mid new s.goes u.goes) (subst (λ (q : Requests). AllByRecursion (FitsLanes 64) q) (sym script) (fits_more (asked_in moves) asked s.fits fits))
          (subst (λ (t : List ℕ). IfSome left (λ all. all ≡ t)) (sym (append_assoc (script_text (asked_in moves)) (request_text asked) r) ∙ ap (λ (t : List ℕ). t ++ r) (sym text)) input) shown
          (λ given given_are. (
            only_last_stops given mid.replies own (sym are ∙ given_are) s.waits.running,
            subst (λ (q : Requests). SessionStopsAt (script_text q ++ r) q r rest given ended) (sym script) (stops given are given_are),
          ))

      -- what the events that finish it add is the request's own
      all_more : IsUnderWay history faults asked mid new → OneMore mid final
      all_more u =
          let m = one_more history faults asked mid new s.waits.replied u in
          let r = rounds_own 0 e.turns (length mid.replies) (as_finished new) final (history new.store.disk) (history final.store.disk) (faults new.store.disk) (faults final.store.disk) e.ends m.left in
          let many = m.many in
          let same = e.keeps.requests in
          record {
            more = m.more ++ r.0;
            journal_is = r.1 ∙ (ap (λ (js : List JournalEntry). js ++ r.0) m.journal_is ∙ append_assoc mid.journal m.more r.0);
            own = All-append (λ (entry : JournalEntry). entry.request ≡ length mid.replies) m.more r.0 m.own r.2;
            left = λ i none. absurd (none_left_over final.replies i e.replied none);
            stay = λ i one at. e.keeps.replies i one (m.stay i one at);
            many = omega (arith, many, same);
          }

      answered_last : (own : Reply) → IsAnswered history faults asked mid new own → HasReply final.replies (length mid.replies) own
      answered_last own a = e.keeps.replies (length mid.replies) own a.reply

      answered_text : (own : Reply) → IsAnswered history faults asked mid new own → batch_text final.journal final.replies ≡ batch_text mid.journal mid.replies ++ last_text mid new own
      answered_text own a = ap (λ (w : WorldValue D). batch_text w.journal w.replies) (as_it_was a.replied) ∙ text_on mid new own order (one_more history faults asked mid new s.waits.replied a.begun) s.waits.replied s.waits.own a.reply

      cut_text : (own : Reply) → IsAnswered history faults asked mid new own → WritesPrefix told [] (last_text mid new own) later → WritesPrefix held [] (batch_text final.journal final.replies) later
      cut_text own a p = then_prefix held told later (batch_text mid.journal mid.replies) (last_text mid new own) (batch_text final.journal final.replies) (answered_text own a) s.printed p

      ends_within : (ended : Outcome) → EndsByRequest history faults asked mid new told later ended → Done ended
      ends_within outcome.NoMemory (inl (inl still, unsaid)) =
          let w = what_left rest in
          assemble moves (request_text asked ++ w.0) outcome.NoMemory (goes_still still unsaid) s.fits (read_on left between (script_text (asked_in moves)) (request_text asked ++ w.0) s.taken (read_on between rest (request_text asked) w.0 taken w.1))
          (whole_prefix held later (batch_text final.journal final.replies) (text_told still unsaid)) (λ given are. (last_alone still unsaid given are, tt))
      ends_within outcome.NoMemory (inl (inr u, unsaid)) =
          let w = what_left rest in
          let m = all_more u in
          let many = m.many in
          let own = e.replied (length mid.replies) (omega (arith, many)) in
          let text = text_on mid final own.0 order m s.waits.replied s.waits.own own.1 in
          begun_with outcome.NoMemory u own.0 own.1 w.0 w.1 (first_prefix held told later (batch_text mid.journal mid.replies) (last_text mid final own.0) (batch_text final.journal final.replies) text s.printed unsaid) (λ given are given_are. tt)
      ends_within outcome.NoMemory (inr (own, a, p)) = let w = what_left rest in begun_with outcome.NoMemory a.begun own (answered_last own a) w.0 w.1 (cut_text own a p) (λ given are given_are. tt)
      ends_within outcome.WriteFault (own, a, p) = let w = what_left rest in begun_with outcome.WriteFault a.begun own (answered_last own a) w.0 w.1 (cut_text own a p) (λ given are given_are. tt)
      ends_within outcome.DiskFault t =
          let own : Reply = reply.Refused refused.Stopped in
          let a = t.answered in
          let w = what_left rest in
          begun_with outcome.DiskFault a.begun own (answered_last own a) w.0 w.1
          (subst (λ (text : List ℕ). Appended held text later) (sym (answered_text own a)) (appended_then held told later (batch_text mid.journal mid.replies) (last_text mid new own) s.printed t.printed))
          (λ given are given_are. inl (given_at given (length mid.replies) own (subst (λ (rs : List (Option Reply)). HasReply rs (length mid.replies) own) (sym are ∙ given_are) (has_last mid.replies own)), w.1))
      ends_within outcome.ReadFault t = absurd t
      ends_within outcome.SessionFull t = absurd t
      ends_within outcome.Done t = absurd t
      ends_within outcome.No t = absurd t
      ends_within outcome.Usage t = absurd t
      ends_within (outcome.StoreRefused why) t = absurd t
      ends_within (outcome.InputRefused why) t = absurd t

  -- Whatever ends it.
  pub gone_done : (ended : Outcome) → HasGone history faults world new left rest held later ended → Done ended
  gone_done ended g = by_end g.ends
    where
      short : (new ≡ g.mid) → length g.mid.replies ≤ 100000
      short still =
          let few = e.short in
          let same = e.keeps.requests in
          let there : length new.replies ≡ length g.mid.replies = ap (λ (w : WorldValue D). length w.replies) still in
          omega (arith, few, same, there)

      by_end : EndsSession history faults g.mid new g.between rest g.told later (extent (script_text (asked_in g.moves))) ended ⊎ ((ended ≡ outcome.SessionFull) × (length (asked_in g.moves) ≡ 100000) × (new ≡ g.mid) × (rest ≡ g.between) × (later ≡ g.told)) → Done ended
      by_end (inl (inl (still, finds))) = finds_none g.moves g.mid g.between g.told g.served still.0 still.1 ended finds (short still.0)
      by_end (inl (inr last)) = ends_within g.moves g.mid g.between g.told g.served last.asked last.fits last.taken ended last.ends
      by_end (inr (is, many, still, same, unsaid)) = subst (λ (o : Outcome). Done o) (sym is) (is_full g.moves g.mid g.between g.told g.served still unsaid many same)
