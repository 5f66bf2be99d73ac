-- `words::names_in_utf8` meets its contract: a tag above those of utf-8 is no tag of a string, or that of another form.
-- Assumes nothing.
use borrow.Author.Tests.{ltb-false}
use Rattle.events.proofs.WordLaws.{other_prefix, other_namespace, other_name}
use Rattle.events.proofs.words.names_in_utf8.Goals as goal

pub returns-then-w-at-lt-UTF16-2 : goal.returns-then-w-at-lt-UTF16-2
returns-then-w-at-lt-UTF16-2 c = λ z. other_name _ _ (ltb-false _ _ z)

pub returns-else-w-at-lt-UTF16-2 : goal.returns-else-w-at-lt-UTF16-2
returns-else-w-at-lt-UTF16-2 c = λ z. other_namespace _ _ c.if-w-at-lt-UTF16-2.false

pub returns-else-w-at-lt-UTF16 : goal.returns-else-w-at-lt-UTF16
returns-else-w-at-lt-UTF16 c = λ z. other_prefix _ _ c.if-w-at-lt-UTF16.false
