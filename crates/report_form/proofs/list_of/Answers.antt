-- `report_form::list_of` meets its contract, test by test. Assumes nothing.
use Rattle.picks.proofs.Rules.{picks}
use Rattle.report_form.specs.Form.{list_named}
use Rattle.report_form.proofs.list_of.Goals as goal

pub returns-then-word-eq112628847174004 : goal.returns-then-word-eq112628847174004
unfolding list_named
returns-then-word-eq112628847174004 c = search picks depth 12

pub returns-then-word-eq6451309 : goal.returns-then-word-eq6451309
unfolding list_named
returns-then-word-eq6451309 c = search picks depth 12

pub returns-then-word-eq1937010544 : goal.returns-then-word-eq1937010544
unfolding list_named
returns-then-word-eq1937010544 c = search picks depth 12

pub returns-then-word-eq431198331257 : goal.returns-then-word-eq431198331257
unfolding list_named
returns-then-word-eq431198331257 c = search picks depth 12

pub returns-then-word-eq2002874992 : goal.returns-then-word-eq2002874992
unfolding list_named
returns-then-word-eq2002874992 c = search picks depth 12

pub returns-then-word-eq495806932324 : goal.returns-then-word-eq495806932324
unfolding list_named
returns-then-word-eq495806932324 c = search picks depth 12

pub returns-then-word-eq126870958861420 : goal.returns-then-word-eq126870958861420
unfolding list_named
returns-then-word-eq126870958861420 c = search picks depth 12

pub returns-then-word-eq1717660517 : goal.returns-then-word-eq1717660517
unfolding list_named
returns-then-word-eq1717660517 c = search picks depth 12

pub returns : goal.returns
unfolding list_named
returns c = search picks depth 12
