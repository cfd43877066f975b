use Rattle.std.proofs.Common.{[], ◌∷◌, ◌++◌, ◌∙◌}
use Rattle.model_logs.specs.LogFile.{log_front}
use Rattle.gate_log.proofs.LogEndLemmas.{cut-reads, cut-keeps, cut-images, cut-stands, cut-kept_mid, cut-reads_then, cut-keeps_then, then-images, then-others}
use Rattle.gate_log.proofs.repair.repair.Goals as goal

pub cut_file-requires : goal.cut_file-requires
cut_file-requires g c = (log_front c.requires.stands.0 c.requires.stands.1 ++ c.args.gate ∷ [], c.requires.stands.2, cut-reads c.args.name c.requires.stands.0 c.requires.stands.1 c.args.end c.args.gate c.requires.stands.2 _ c.requires.stands.4)

pub returns-in_err-cut_file-clause-any_moment : goal.returns-in_err-cut_file-clause-any_moment
returns-in_err-cut_file-clause-any_moment g c = λ head entries rest l h.
    cut-images c.args.name head entries c.args.end c.args.gate rest _ _ (λ e. c.if-behind-eq0.false (l ∙ e)) h
    (c.in_err-cut_file.ensures.any_moment (log_front head entries ++ c.args.gate ∷ []) rest (cut-keeps c.args.name head entries c.args.end c.args.gate rest _ h))

pub close_gate-requires-2 : goal.close_gate-requires-2
close_gate-requires-2 g c =
    record {
      stands = (
        c.requires.stands.0,
        c.requires.stands.1,
        cut-stands c.args.name c.requires.stands.0 c.requires.stands.1 c.args.end c.args.gate c.requires.stands.2 _ _ c.in_ok-cut_file.ensures.others c.requires.stands.4
            (c.in_ok-cut_file.ensures.reads (log_front c.requires.stands.0 c.requires.stands.1 ++ c.args.gate ∷ []) c.requires.stands.2
            (cut-reads c.args.name c.requires.stands.0 c.requires.stands.1 c.args.end c.args.gate c.requires.stands.2 _ c.requires.stands.4)),
      );
    }

pub returns-clause-any_moment : goal.returns-clause-any_moment
returns-clause-any_moment g c = λ head entries rest l h.
    then-images c.args.name head entries _ _ _
    (cut-images c.args.name head entries c.args.end c.args.gate rest _ _ (λ e. c.if-behind-eq0.false (l ∙ e)) h
    (c.in_ok-cut_file.ensures.any_moment (log_front head entries ++ c.args.gate ∷ []) rest (cut-keeps c.args.name head entries c.args.end c.args.gate rest _ h)))
    c.in_ok-cut_file.ensures.others
    (c.close_gate-2.ensures.any_moment head entries (cut-kept_mid c.args.name head entries c.args.end c.args.gate rest _ _ c.in_ok-cut_file.ensures.others c.in_ok-cut_file.ensures.reads c.in_ok-cut_file.ensures.keeps h))

pub returns-clause-others_stay : goal.returns-clause-others_stay
returns-clause-others_stay g c = then-others c.args.name _ _ _ c.in_ok-cut_file.ensures.others_stay c.in_ok-cut_file.ensures.others c.close_gate-2.ensures.others_stay

pub returns-clause-reads : goal.returns-clause-reads
returns-clause-reads g c = cut-reads_then c.args.name c.args.end c.args.gate c.args.behind _ _ _ c.close_gate-2.result c.in_ok-cut_file.ensures.others c.in_ok-cut_file.ensures.reads c.close_gate-2.ensures.reads

pub returns-clause-keeps : goal.returns-clause-keeps
returns-clause-keeps g c = cut-keeps_then c.args.name c.args.end c.args.gate c.args.behind _ _ _ c.close_gate-2.result c.in_ok-cut_file.ensures.others c.in_ok-cut_file.ensures.reads c.in_ok-cut_file.ensures.keeps c.close_gate-2.ensures.keeps
