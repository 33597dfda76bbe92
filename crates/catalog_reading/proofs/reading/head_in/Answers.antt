use Rattle.std.proofs.Common.{◌≡◌, Some}
use Rattle.std.proofs.lemmas.Option.{none-some, same_Some}
use Rattle.catalog_reading.proofs.reading.head_in.Goals as goal

pub returns-in_err-number : goal.returns-in_err-number
returns-in_err-number c = λ base k head fits seen. absurd (none-some head.number (c.in_err-number.ensures base k head fits seen))

pub returns-in_err-stamp : goal.returns-in_err-stamp
returns-in_err-stamp c = λ base k head fits seen. absurd (none-some head.stamp (c.in_err-stamp.ensures.head base k head fits seen))

pub returns-in_err-count : goal.returns-in_err-count
returns-in_err-count c = λ base k head fits seen. absurd (none-some head.count (c.in_err-count.ensures base k head fits seen))

pub returns : goal.returns
returns c = λ base k head fits seen.
    let number : c.in_ok-number.number ≡ head.number = same_Some c.in_ok-number.number head.number (c.in_ok-number.ensures base k head fits seen) in
    let stamp : c.in_ok-stamp.stamp ≡ head.stamp = same_Some c.in_ok-stamp.stamp head.stamp (c.in_ok-stamp.ensures.head base k head fits seen) in
    let count : c.in_ok-count.count ≡ head.count = same_Some c.in_ok-count.count head.count (c.in_ok-count.ensures base k head fits seen) in
    λ i. Some (record { number = number i; stamp = stamp i; count = count i })
