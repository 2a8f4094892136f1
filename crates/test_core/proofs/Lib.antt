mod FirstLsas
mod Only
