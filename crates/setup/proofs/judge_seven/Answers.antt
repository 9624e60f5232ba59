-- `judge_seven`: section after section, as `seven_judged` says. Assumes nothing.
use Rattle.setup.proofs.Whole.{seven_judged}
use Rattle.setup.proofs.judge_seven.Goals as goal

pub returns : goal.returns
returns c =
    rw seven_judged
    (simp (
      c.after.ensures,
      c.one_word-3.ensures,
      c.after-messages.ensures,
      c.no_words-3.ensures,
      c.after-mailboxes.ensures,
      c.no_words-2.ensures,
      c.after-flags.ensures,
      c.one_word-2.ensures,
      c.after-semaphores.ensures,
      c.one_word.ensures,
      c.after-tasks.ensures,
      c.two_words.ensures,
      c.word.ensures,
      c.judge_section-priorities.ensures,
      c.no_words.ensures,
      c.new-7.ensures.least,
      c.new-7.ensures.most,
      c.new-6.ensures.least,
      c.new-6.ensures.most,
      c.new-5.ensures.least,
      c.new-5.ensures.most,
      c.new-4.ensures.least,
      c.new-4.ensures.most,
      c.new-3.ensures.least,
      c.new-3.ensures.most,
      c.new-2.ensures.least,
      c.new-2.ensures.most,
      c.new.ensures.least,
      c.new.ensures.most,
    ))
