-- `text_decimal::put_six` meets its contract, digit by digit. Assumes nothing.
use Rattle.text_decimal.proofs.SixDigits.{six-digits}
use Rattle.text_page.proofs.Joined.{wrote-join, wrote_as}
use Rattle.text_decimal.proofs.put_six.Goals as goal

pub returns : goal.returns
returns c =
    let sixth = c in
    let fifth = sixth in
    let fourth = fifth in
    let third = fourth in
    let second = third in
    let first = second in
    let start = first in
    wrote_as (six-digits start.args.n)
    (wrote-join (rw first.digit.ensures at first.put_byte-at.ensures)
    (wrote-join (rw second.digit-2.ensures at second.put_byte-at-2.ensures)
    (wrote-join (rw third.digit-3.ensures at third.put_byte-at-3.ensures)
    (wrote-join (rw fourth.digit-4.ensures at fourth.put_byte-at-4.ensures)
    (wrote-join (rw fifth.digit-5.ensures at fifth.put_byte-at-5.ensures)
    (rw sixth.digit-6.ensures at sixth.put_byte.ensures))))))
