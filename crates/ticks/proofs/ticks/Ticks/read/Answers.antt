use Rattle.std.proofs.Common.{◌≡◌, ◌≤◌, ℕ, List, subst, sym}
use Rattle.ticks.specs.Reading.{NamesMoment}
use Rattle.ticks.specs.Stamp.{stamp_text}
use Rattle.ticks.proofs.Forms.{written_from, refused_there}
use Rattle.ticks.proofs.Named.{stamp_names}
use Rattle.ticks.proofs.ticks.Ticks.read.Goals as goal

-- a printed text names its moment
printed : (text : List ℕ) (n : ℕ) → n ≤ 3_155_378_975_999_999_999 → text ≡ stamp_text n → NamesMoment text n
printed text n within e = subst (λ (t : List ℕ). NamesMoment t n) (sym e) (stamp_names n within)

pub returns-in-Some-clause-accepts : goal.returns-in-Some-clause-accepts
returns-in-Some-clause-accepts c n h =
    let only = rw c.as_bytes-bytes.ensures.value at c.in-Some.ensures.only in
    let same = only n h in
    cc

pub returns-in-Some-clause-printed : goal.returns-in-Some-clause-printed
returns-in-Some-clause-printed c n within e =
    let only = rw c.as_bytes-bytes.ensures.value at c.in-Some.ensures.only in
    let same = only n (printed c.args.text.now n within e) in
    cc

pub returns-in-None-clause-accepts : goal.returns-in-None-clause-accepts
returns-in-None-clause-accepts c n h =
    let only = rw c.as_bytes-bytes.ensures.value at c.in-None.ensures.only in
    let same = only n h in
    cc

pub returns-in-None-clause-refuses : goal.returns-in-None-clause-refuses
returns-in-None-clause-refuses c =
    let only = rw c.as_bytes-bytes.ensures.value at c.in-None.ensures.only in
    let scans = rw c.as_bytes-bytes.ensures.value at c.in-Ok.ensures.scans in
    (written_from c.args.text.now scans, λ n h. let same = only n h in cc)

pub returns-in-None-clause-printed : goal.returns-in-None-clause-printed
returns-in-None-clause-printed c n within e =
    let only = rw c.as_bytes-bytes.ensures.value at c.in-None.ensures.only in
    let same = only n (printed c.args.text.now n within e) in
    cc

pub returns-in-Err-clause-accepts : goal.returns-in-Err-clause-accepts
returns-in-Err-clause-accepts c n h =
    let scans = rw c.as_bytes-bytes.ensures.value at c.in-Err.ensures.scans in
    absurd ((refused_there c.args.text.now c.in-Err.at scans).0 (h.0, h.1))

pub returns-in-Err-clause-refuses : goal.returns-in-Err-clause-refuses
returns-in-Err-clause-refuses c =
    let scans = rw c.as_bytes-bytes.ensures.value at c.in-Err.ensures.scans in
    refused_there c.args.text.now c.in-Err.at scans

pub returns-in-Err-clause-printed : goal.returns-in-Err-clause-printed
returns-in-Err-clause-printed c n within e =
    let scans = rw c.as_bytes-bytes.ensures.value at c.in-Err.ensures.scans in
    let h = printed c.args.text.now n within e in
    absurd ((refused_there c.args.text.now c.in-Err.at scans).0 (h.0, h.1))
