use Rattle.std.proofs.Common.{◌≡◌, length, rules}
use Rattle.aes.proofs.Schedules.{followed, sum_lane}
use Rattle.aes.proofs.schedule.follow.Goals as goal

pub returns : goal.returns
returns c = λ count ws m n t short bytes small held temp_is follows.
    let long : length c.sums.result ≡ 16 = search rules in
    followed _ c.sums.result c.args.back c.args.temp count ws m n t c.sums.ensures
    (λ i l. sum_lane c.sums.result c.args.temp i long c.fits-temp.0 l) short bytes small held temp_is follows
